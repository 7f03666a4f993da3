-- What the nodes and the output of a plan stand for.
use Rattle.std.specs.Prelude.{◌≡◌, ◌≢◌, ℕ, ◌+◌, ◌<◌, ◌≤◌, IsTrue, List, length, None, Some}
use Rattle.dataflow.specs.Evaluation.{dataset_at}
use Rattle.dataflow.specs.Standing.{meanings}
use Rattle.dataflow.specs.Wired.{WiresPend, WiresStand}
use Rattle.plan_model.specs.Acceptance.{Accepts}
use Rattle.plan_model.specs.Evaluation.{Family}
use Rattle.plan_model.specs.Fits.{misfit}
use Rattle.plan_model.specs.Limits.{is_plan}
use Rattle.plan_model.specs.Types.{Keeps}
use Rattle.plan_model.specs.declared.source_types.SourceType.{SourceType}
use Rattle.plan_model.specs.declared.step.Step.{Step}
use Rattle.weighted_set.specs.Changes.{IsChangeList}
use Rattle.weighted_set.specs.Held.{AllInRange}
use Rattle.weighted_set.specs.Parts.{StoreParts}
use Rattle.weighted_set.specs.Standing.{Standing}
use Rattle.weighted_set.specs.declared.weighted.Change.{Change}
use Rattle.flow_graph.specs.Steps.{plan_meanings, plan_wires}
use Rattle.flow_graph.specs.Work.{most_ticks}

-- a plan that is accepted for these sources
pub record IsKept (plan : List Step) (types : List SourceType) : Type 0 where
  pub steps : IsTrue (is_plan plan)
  pub accepted : Accepts plan types

-- the family keeps the types, its weights are in range, and it fits the plan
pub record MayStand (plan : List Step) (types : List SourceType) (F : Family) : Type 0 where
  pub keeps : Keeps types F
  pub in_range : (s : ℕ) → AllInRange (dataset_at F s)
  pub fits : misfit plan types F ≡ None

-- the nodes do what the plan's steps do, and with the output they hold what the family gives
pub record PlanStands {N : Type 0} (of : N → Standing) (plan : List Step) (types : List SourceType) (nodes : List N) (out : StoreParts) (F : Family) : Type 0 where
  pub kept : IsKept plan types
  pub same : meanings of nodes ≡ plan_meanings plan types
  pub family : MayStand plan types F
  pub held : WiresStand of nodes out (plan_wires plan types) F

-- the nodes do what the plan's steps do, and what is pending in them and in the output is what the family gives
pub record PlanPends {N : Type 0} (of : N → Standing) (plan : List Step) (types : List SourceType) (nodes : List N) (out : StoreParts) (F : Family) : Type 0 where
  pub kept : IsKept plan types
  pub same : meanings of nodes ≡ plan_meanings plan types
  pub family : MayStand plan types F
  pub held : WiresPend of nodes out (plan_wires plan types) F

-- the changes lead from F to G, which differ at one source alone, and G keeps the types
pub record TurnsInto (types : List SourceType) (source : ℕ) (changes : List Change) (F G : Family) : Type 0 where
  pub within : source < length types
  pub changed : IsChangeList changes (dataset_at F source) (dataset_at G source)
  pub others : (s : ℕ) → s ≢ source → dataset_at G s ≡ dataset_at F s
  pub keeps : Keeps types G

-- the plan stands for some family that these changes can be made to
abbrev pub PlanHasInputs : {N : Type 0} → (N → Standing) → List Step → List SourceType → List N → StoreParts → ℕ → List Change → Type 0
PlanHasInputs of plan types nodes out source changes =
    (F : Family) × ((G : Family) × (PlanStands of plan types nodes out F × TurnsInto types source changes F G))

-- whatever the changes make of the family, that is pending
abbrev pub PlanTurns : {N : Type 0} → (N → Standing) → List Step → List SourceType → List N → StoreParts → List N → StoreParts → ℕ → List Change → Type 0
PlanTurns of plan types old out new after source changes =
    (F G : Family) → PlanStands of plan types old out F → TurnsInto types source changes F G → PlanPends of plan types new after G

-- whatever the changes make of the family, the step i is the first that doesn't fit
abbrev pub PlanMisfits : {N : Type 0} → (N → Standing) → List Step → List SourceType → List N → StoreParts → ℕ → List Change → ℕ → Type 0
PlanMisfits of plan types nodes out source changes i =
    (F G : Family) → PlanStands of plan types nodes out F → TurnsInto types source changes F G → misfit plan types G ≡ Some i

-- whatever the changes make of the family, the ticks are no more than the plan's work allows
abbrev pub PlanKeepsWork : {N : Type 0} → (N → Standing) → List Step → List SourceType → List N → StoreParts → ℕ → List Change → ℕ → ℕ → Type 0
PlanKeepsWork of plan types nodes out source changes old new =
    (F G : Family) → PlanStands of plan types nodes out F → TurnsInto types source changes F G → new ≤ old + most_ticks plan types F G

-- what the plan stood for it stands for
abbrev pub PlanKeeps : {N : Type 0} → (N → Standing) → List Step → List SourceType → List N → StoreParts → List N → StoreParts → Type 0
PlanKeeps of plan types old out new after = (F : Family) → PlanStands of plan types old out F → PlanStands of plan types new after F
