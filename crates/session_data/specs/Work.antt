-- How many steps it takes plans to follow their sources.
use Rattle.std.specs.Prelude.{ℕ, ◌+◌, ◌≤◌, List, sum_by}
use Rattle.flow_graph.specs.Work.{most_ticks}
use Rattle.plan_model.specs.Evaluation.{Family}
use Rattle.plan_model.specs.declared.source_types.SourceType.{SourceType}
use Rattle.weighted_set.specs.declared.weighted.Change.{Change}
use Rattle.request_machine.specs.State.{PlanState}
use Rattle.session_data.specs.Flow.{TurnsInto}
use Rattle.session_data.specs.Planned.{IsSettled, MayTurnAll, plan_states}
use Rattle.session_data.specs.declared.plans.Planned.{Planned}

-- the most steps that it takes these plans to follow their sources from F to G
abbrev pub follow_steps : List PlanState → List SourceType → Family → Family → ℕ
follow_steps plans types F G = sum_by (λ (p : PlanState). most_ticks p.plan types F G) plans

-- whatever the changes make of the family, the plan takes no more steps than it may
abbrev pub PlanWithin : Planned → ℕ → List Change → ℕ → ℕ → Type 0
PlanWithin planned source changes old new =
    (types : List SourceType) (F G : Family) → IsSettled types F planned → TurnsInto types source changes F G
    → new ≤ old + most_ticks planned.plan types F G

-- the same of all plans
abbrev pub PlansWithin : List Planned → ℕ → List Change → ℕ → ℕ → Type 0
PlansWithin plans source changes old new =
    (types : List SourceType) (F G : Family) → MayTurnAll plans types source changes F G
    → new ≤ old + follow_steps (plan_states plans) types F G
