-- Plans that are kept up to date.
use Rattle.std.specs.Prelude.{◌≡◌, ℕ, ◌<◌, All, false, IsTrue, List, [], length, map, slice_index_or, None, Some}
use Rattle.plan_model.specs.Evaluation.{Family, last_or}
use Rattle.plan_model.specs.Acceptance.{Accepts}
use Rattle.plan_model.specs.Fits.{misfit}
use Rattle.plan_model.specs.Types.{columns}
use Rattle.plan_model.specs.declared.source_types.SourceType.{SourceType}
use Rattle.messages.specs.declared.refusal.Refusal.TheVariants as refusal
use Rattle.weighted_set.specs.declared.weighted.Change.{Change}
use Rattle.session_data.specs.Flow.{Becomes, StandsFor, TurnsInto, first_of}
use Rattle.request_machine.specs.Charges.{uses_of}
use Rattle.request_machine.specs.Updates.{first_misfit}
use Rattle.request_machine.specs.State.{PlanState}
use Rattle.session_data.specs.declared.plans.Planned.{Planned}
use Rattle.session_data.specs.declared.plans.PlansFault.{PlansFault}
use Rattle.session_data.specs.declared.plans.PlansFault.TheVariants.{Range, Memory}

-- what callers see of a plan
abbrev pub plan_state : Planned → PlanState
plan_state planned = record { name = planned.name; plan = planned.plan }

abbrev pub plan_states : List Planned → List PlanState
plan_states plans = map plan_state plans

-- the plan can be read, is accepted for sources of these types and fits the family; its graph, which was built on the
-- first of them, stands for what they hold, and its columns and what it uses are told
pub record Holds (types : List SourceType) (F : Family) (planned : Planned) : Type 0 where
  pub accepted : Accepts planned.plan types
  pub fits : misfit planned.plan types F ≡ None
  pub size : length F ≡ length types
  pub same : planned.graph.plan ≡ planned.plan
  pub first : first_of planned.graph types ≡ planned.graph.types
  pub stands : StandsFor planned.graph (first_of planned.graph F)
  pub cols : planned.cols ≡ last_or [] (columns planned.plan types)
  pub uses : planned.uses.items ≡ uses_of planned.plan types

-- and nothing is pending in it
pub record IsSettled (types : List SourceType) (F : Family) (planned : Planned) : Type 0 where
  pub holds : Holds types F planned
  pub idle : planned.graph.pending ≡ false

-- and once what is pending in it is committed, it stands for G, which the plan fits
pub record IsPrepared (types : List SourceType) (F G : Family) (planned : Planned) : Type 0 where
  pub holds : Holds types F planned
  pub fits : misfit planned.plan types G ≡ None
  pub size : length G ≡ length types
  pub becomes : Becomes planned.graph (first_of planned.graph G)

-- settled plans on F, which the changes of a source turn into G
pub record MayTurnAll (plans : List Planned) (types : List SourceType) (source : ℕ) (changes : List Change) (F G : Family) : Type 0 where
  pub settled : All (IsSettled types F) plans
  pub turns : TurnsInto types source changes F G

-- a place of one of the plans; Memory is tied to nothing
abbrev pub IsPlace : List Planned → PlansFault → Type 0
IsPlace plans (Range place step) = place < length plans
IsPlace plans Memory = Unit {0}

-- the first plan that doesn't fit a family; Memory is tied to nothing
abbrev pub IsFirstMisfit : List Planned → List SourceType → Family → PlansFault → Type 0
IsFirstMisfit plans types F (Range place step) = (d : Planned) → first_misfit types F (plan_states plans) ≡ Some (refusal.Range (slice_index_or plans place d).name step)
IsFirstMisfit plans types F Memory = Unit {0}
