use Rattle.std.proofs.Common.{◌≡◌, ◌++◌, ◌∙◌, length, take, arith, ap, rules}
use Rattle.wpinq_program.proofs.LineLemmas.{kept-filled}
use Rattle.wpinq_program.proofs.line_buffer.LineBuffer.extend.Goals as goal

pub returns : goal.returns
returns c =
    let kept = c.min-kept.result in
    let bytes = c.args.bytes.now in
    let filled : c.extend_from_slice.new.self.items ≡ c.self.inside.bytes.items ++ take kept bytes = search rules in
    filled ∙ ap (λ line. line ++ take kept bytes) c.self.view_is
    ∙ kept-filled kept c.args.self.now bytes (omega (arith, ap length c.self.view_is)) (omega (arith, ap length c.self.view_is))
