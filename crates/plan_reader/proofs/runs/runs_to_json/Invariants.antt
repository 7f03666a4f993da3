use Rattle.std.proofs.Common.{◌≡◌, map, take, length, Ok}
use Rattle.serde_json.specs.View.{view}
use Rattle.expr_text.specs.declared.fault.Place.{Place}
use Rattle.plan_reader.specs.Runs.{runs_after}
use Rattle.plan_reader.proofs.runs.runs_to_json.Given as goal

abbrev pub invariant-loop-i : goal.invariant-loop-i
invariant-loop-i l = record {
  read : (place : Place) → runs_after place 0 (map view l.values.items) ≡ Ok (take l.i l.runs);
  len : length l.values.items ≡ l.i;
}
