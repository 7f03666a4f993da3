use Rattle.std.proofs.Common.{◌≡◌, [], map, drop}
use Rattle.serde_json.specs.View.{view}
use Rattle.plan_reader.specs.Plans.{steps_after}
use Rattle.plan_reader.proofs.plan.steps.Given as goal

abbrev pub invariant-loop-value : goal.invariant-loop-value
invariant-loop-value l = steps_after l.steps.items (map view (drop l.value-index l.list)) ≡ steps_after [] (map view l.list)
