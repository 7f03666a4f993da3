use Rattle.std.proofs.Common.{◌≡◌, map, take}
use Rattle.serde_json.specs.View.{view}
use Rattle.reply_text.specs.Replies.{use_data}
use Rattle.reply_text.proofs.lists.uses_value.Given as goal

abbrev pub invariant-loop-source : goal.invariant-loop-source
invariant-loop-source l = map view l.list.items ≡ map use_data (take l.source-index l.uses)
