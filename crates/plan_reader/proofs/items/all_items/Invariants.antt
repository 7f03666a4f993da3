use Rattle.std.proofs.Common.{◌≡◌, map, drop, length}
use Rattle.serde_json.specs.View.{view}
use Rattle.json_fields.specs.Walk.{each}
use Rattle.json_fields.proofs.Members.{with_front}
use Rattle.plan_reader.specs.Items.{item_at}
use Rattle.plan_reader.proofs.items.all_items.Given as goal

abbrev pub invariant-loop-value : goal.invariant-loop-value
invariant-loop-value l = record {
  read : with_front l.items.items (each (item_at l.place) l.value-index (map view (drop l.value-index l.list))) ≡ each (item_at l.place) 0 (map view l.list);
  len : length l.items.items ≡ l.value-index;
}
