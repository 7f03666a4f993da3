use Rattle.std.proofs.Common.{◌≡◌, map, take}
use Rattle.serde_json.specs.View.{view}
use Rattle.reply_text.specs.Replies.{wide_data}
use Rattle.reply_text.proofs.lists.wides_value.Given as goal

abbrev pub invariant-loop-wide : goal.invariant-loop-wide
invariant-loop-wide l = map view l.list.items ≡ map wide_data (take l.wide-index l.wides)
