use Rattle.std.proofs.Common.{◌≡◌, map, drop}
use Rattle.serde_json.specs.View.{view}
use Rattle.json_fields.specs.Walk.{each}
use Rattle.json_fields.proofs.Members.{with_front}
use Rattle.request_fields.specs.Fields.{weight_in}
use Rattle.request_fields.proofs.lists.all_weights.Given as goal

abbrev pub invariant-loop-at : goal.invariant-loop-at
invariant-loop-at l = with_front l.weights.items (each weight_in l.at (map view (drop l.at l.list))) ≡ each weight_in 0 (map view l.list)
