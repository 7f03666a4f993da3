use Rattle.std.proofs.Common.{◌≡◌, map, take}
use Rattle.serde_json.specs.View.{view}
use Rattle.reply_text.specs.Replies.{weight_data}
use Rattle.reply_text.proofs.lists.weights_value.Given as goal

abbrev pub invariant-loop-weight : goal.invariant-loop-weight
invariant-loop-weight l = map view l.list.items ≡ map weight_data (take l.weight-index l.weights)
