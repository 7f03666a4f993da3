use Rattle.std.proofs.Common.{◌+◌, ◌≤◌, List, drop}
use Rattle.plan_model.specs.Evaluation.{Family}
use Rattle.plan_model.specs.declared.source_types.SourceType.{SourceType}
use Rattle.session_data.specs.Planned.{MayTurnAll, plan_states}
use Rattle.session_data.specs.Work.{follow_steps}
use Rattle.session_data.proofs.PlanLoops.{PreparedBefore}
use Rattle.session_data.proofs.plans.prepare_all.Given as goal

abbrev pub invariant-loop-at : goal.invariant-loop-at
invariant-loop-at g l = record {
  prepared : PreparedBefore l.source l.changes l.initial.plans l.plans l.at;
  work : (types : List SourceType) (F G : Family) → MayTurnAll l.initial.plans types l.source l.changes F G
      → l.steps + follow_steps (drop l.at (plan_states l.initial.plans)) types F G ≤ l.initial.steps + follow_steps (plan_states l.initial.plans) types F G;
}
