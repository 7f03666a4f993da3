use Rattle.std.proofs.Common.{◌≡◌, ◌+◌, ◌*◌, ◌≤◌, List, map, take}
use Rattle.datasets.specs.Dataset.{at}
use Rattle.plan_model.specs.Evaluation.{Family, eval}
use Rattle.plan_model.specs.declared.source_types.SourceType.{SourceType}
use Rattle.session_data.specs.Planned.{Holds}
use Rattle.session_data.proofs.plans.Planned.weights.Given as goal

abbrev pub invariant-loop-row : goal.invariant-loop-row
invariant-loop-row g l = record {
  ticks : l.steps ≤ l.fn.steps + 2 * l.row-index;
  weights : (types : List SourceType) (F : Family) → Holds types F l.self → l.weights.items ≡ map (at (eval l.self.plan types F)) (take l.row-index l.rows);
}
