use Rattle.std.proofs.Common.{◌≡◌, map, drop, length}
use Rattle.serde_json.specs.View.{view}
use Rattle.json_fields.specs.Walk.{each}
use Rattle.json_fields.proofs.Members.{with_front}
use Rattle.request_fields.specs.Fields.{row_in}
use Rattle.request_fields.proofs.lists.all_rows.Given as goal

abbrev pub invariant-loop-value : goal.invariant-loop-value
invariant-loop-value l = record {
  read : with_front l.rows.items (each (λ at. row_in) l.value-index (map view (drop l.value-index l.list))) ≡ each (λ at. row_in) 0 (map view l.list);
  len : length l.rows.items ≡ l.value-index;
}
