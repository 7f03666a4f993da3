use Rattle.std.proofs.Common.{◌≡◌, map, refl, arith}
use Rattle.std.proofs.lemmas.Grind.{common_steps}
use Rattle.serde_json.proofs.Views.{view-Array}
use Rattle.serde_json.specs.View.{view}
use Rattle.reply_text.specs.Replies.{wide_data}
use Rattle.reply_text.proofs.lists.wides_value.Goals as goal

pub returns : goal.returns
returns c =
    let all : map view c.loop-wide.list.items ≡ map wide_data c.args.wides.now = grind (arith, common_steps) in
    rw (view-Array, all) refl
