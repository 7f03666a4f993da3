use Rattle.std.proofs.Common.{◌≡◌, map, take, length, Ok}
use Rattle.serde_json.specs.View.{view}
use Rattle.json_fields.specs.Walk.{each}
use Rattle.expr_text.specs.declared.fault.Place.{Place}
use Rattle.plan_reader.specs.Items.{item_at}
use Rattle.plan_reader.proofs.items.items_to_json.Given as goal

abbrev pub invariant-loop-i : goal.invariant-loop-i
invariant-loop-i l = record {
  read : (place : Place) → each (item_at place) 0 (map view l.values.items) ≡ Ok (take l.i l.items);
  len : length l.values.items ≡ l.i;
}
