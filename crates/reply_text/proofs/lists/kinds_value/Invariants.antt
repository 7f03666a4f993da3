use Rattle.std.proofs.Common.{◌≡◌, map, take}
use Rattle.serde_json.specs.View.{view}
use Rattle.reply_text.specs.Replies.{kind_data}
use Rattle.reply_text.proofs.lists.kinds_value.Given as goal

abbrev pub invariant-loop-column : goal.invariant-loop-column
invariant-loop-column l = map view l.list.items ≡ map kind_data (take l.column l.kinds)
