use Rattle.std.proofs.Common.{refl}
use Rattle.reply_text.specs.Replies.{reply_line}
use Rattle.reply_text.proofs.Plain.{value-plain}
use Rattle.reply_text.proofs.write.line_of.Goals as goal

pub returns : goal.returns
unfolding reply_line
returns c =
    let plain = value-plain c.args.reply.now c.in_ok-value.value c.in_ok-value.ensures in
    rw (c.in_ok-push.ensures.items, c.in_ok-line.ensures.text plain, c.in_ok-value.ensures) refl
