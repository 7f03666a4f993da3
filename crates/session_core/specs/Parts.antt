-- What a session keeps, and what a request does with it.
use Rattle.std.specs.Prelude.{◌≡◌, ℕ, ◌+◌, ◌≤◌, ◌<◌, All, List, None, length, map, vec_capacity, vec_len}
use Rattle.indexmap.specs.IndexSet.{spare}
use Rattle.plan_model.specs.Evaluation.{Family}
use Rattle.plan_model.specs.declared.source_types.SourceType.{SourceType}
use Rattle.weighted_set.specs.declared.weighted.Change.{Change}
use Rattle.session_data.specs.Flow.{TurnsInto}
use Rattle.session_data.specs.Held.{IsTurn}
use Rattle.request_machine.specs.Limits.{max_plans}
use Rattle.request_machine.specs.Named.{place_named, plan_name}
use Rattle.session_data.specs.Planned.{Holds, IsPrepared, IsSettled, plan_states}
use Rattle.request_machine.specs.Sound.{Sound}
use Rattle.request_machine.specs.State.{State, family_of, types_of}
use Rattle.session_core.specs.declared.parts.Parts.{Parts}

-- the state that parts stand for
abbrev pub state_of : Parts → State
state_of parts =
    record { curator = parts.curator; sources = parts.sources.committed; plans = plan_states parts.plans.items }

-- the types of the sources, and their rows as they are and as they are once what is pending is committed
abbrev pub types_in : Parts → List SourceType
types_in parts = types_of parts.sources.committed

abbrev pub rows_in : Parts → Family
rows_in parts = family_of parts.sources.committed

abbrev pub pending_rows_in : Parts → Family
pending_rows_in parts = family_of parts.sources.pending

-- the state is sound, and there is room for the names of 32 plans
pub record AreKept (parts : Parts) : Type 0 where
  pub sound : Sound (state_of parts)
  pub names : parts.plan_names.keys ≡ map plan_name (plan_states parts.plans.items)
  pub names_room : max_plans ≤ spare parts.plan_names + vec_len parts.plans
  pub plans_room : max_plans ≤ vec_capacity parts.plans

-- and each plan's graph stands for the sources
pub record AreHeld (parts : Parts) : Type 0 where
  pub kept : AreKept parts
  pub plans : All (Holds (types_in parts) (rows_in parts)) parts.plans.items

-- and nothing is pending
pub record AreSettled (parts : Parts) : Type 0 where
  pub kept : AreKept parts
  pub plans : All (IsSettled (types_in parts) (rows_in parts)) parts.plans.items
  pub none_pending : parts.sources.pending ≡ parts.sources.committed

-- changes of one source are pending in the sources, and nothing is pending in the plans
pub record ArePending (parts : Parts) (at : ℕ) (changes : List Change) : Type 0 where
  pub kept : AreKept parts
  pub plans : All (IsSettled (types_in parts) (rows_in parts)) parts.plans.items
  pub turn : IsTurn parts.sources.committed parts.sources.pending
  pub turns : TurnsInto (types_in parts) at changes (rows_in parts) (pending_rows_in parts)

-- what is pending in the plans follows from what is pending in the sources
pub record ArePrepared (parts : Parts) : Type 0 where
  pub kept : AreKept parts
  pub plans : All (IsPrepared (types_in parts) (rows_in parts) (pending_rows_in parts)) parts.plans.items
  pub turn : IsTurn parts.sources.committed parts.sources.pending

-- no plan has the name, and there is room for one more
pub record IsNewPlan (state : State) (name : List ℕ) : Type 0 where
  pub nowhere : place_named plan_name name state.plans ≡ None
  pub few : length state.plans < max_plans
