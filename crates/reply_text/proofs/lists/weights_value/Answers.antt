use Rattle.std.proofs.Common.{◌≡◌, map, refl, arith}
use Rattle.std.proofs.lemmas.Grind.{common_steps}
use Rattle.serde_json.proofs.Views.{view-Array}
use Rattle.serde_json.specs.View.{view}
use Rattle.reply_text.specs.Replies.{weight_data}
use Rattle.reply_text.proofs.lists.weights_value.Goals as goal

pub returns : goal.returns
returns c =
    let all : map view c.loop-weight.list.items ≡ map weight_data c.args.weights.now = grind (arith, common_steps) in
    rw (view-Array, all) refl
