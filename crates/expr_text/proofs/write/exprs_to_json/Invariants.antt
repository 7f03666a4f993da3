use Rattle.std.proofs.Common.{◌≡◌, map, take, length, Ok}
use Rattle.serde_json.specs.View.{view}
use Rattle.json_fields.specs.Walk.{each}
use Rattle.expr_text.specs.declared.fault.Place.{Place}
use Rattle.expr_text.specs.Exprs.{member_in}
use Rattle.expr_text.proofs.write.exprs_to_json.Given as goal

abbrev pub invariant-loop-i : goal.invariant-loop-i
invariant-loop-i l = record {
  read : (place : Place) → each (member_in place) 0 (map view l.values.items) ≡ Ok (take l.i l.exprs);
  len : length l.values.items ≡ l.i;
}
