use Rattle.std.proofs.Common.{◌≡◌, map, take, length, Ok}
use Rattle.serde_json.specs.View.{view}
use Rattle.json_fields.specs.Walk.{each}
use Rattle.plan_reader.specs.Steps.{step_at}
use Rattle.plan_reader.proofs.write.steps_to_json.Given as goal

abbrev pub invariant-loop-at : goal.invariant-loop-at
invariant-loop-at l = record {
  read : each step_at 0 (map view l.values.items) ≡ Ok (take l.at l.plan);
  len : length l.values.items ≡ l.at;
}
