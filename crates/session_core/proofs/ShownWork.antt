-- The work of an update or a load, from its reply.
use Rattle.std.proofs.Common.{ℕ, Bool, List, [], ◌∷◌, refl, length, Some, None, Ok, Err, Option, Result}
use Rattle.std.specs.Prelude.{slice_set}
use Rattle.csv_changes.specs.Changes.{BadRecord, changes_of}
use Rattle.datasets.specs.Dataset.{first_weight_out_of_range}
use Rattle.messages.specs.declared.refusal.Refusal.{Refusal}
use Rattle.messages.specs.declared.refusal.Refusal.TheVariants as refusal
use Rattle.messages.specs.declared.reply.Reply.{Reply}
use Rattle.plan_model.specs.Evaluation.{Family}
use Rattle.plan_model.specs.Fits.{misfit}
use Rattle.plan_model.specs.declared.source_types.SourceType.{SourceType}
use Rattle.request_machine.specs.Fetches.{Content, Failed, Fetched, Long, Missing, Nothing}
use Rattle.request_machine.specs.Loads.{loaded_by, loaded_of}
use Rattle.request_machine.specs.Named.{index_named, source_name}
use Rattle.request_machine.specs.State.{PlanState, SourceState, State, family_of, types_of}
use Rattle.request_machine.specs.Updates.{added_at, below_zero, first_misfit, range_or, updated_at, updated_by, updated_of, with_weights}
use Rattle.weighted_set.specs.Changes.{entries_of}
use Rattle.weighted_set.specs.declared.weighted.Weighted.{Weighted}
use Rattle.session_core.specs.Laws.{IsWorkAfter}
use Rattle.session_core.specs.Work.{outcome_steps, without_plans}

-- a refusal for a plan that doesn't fit, or none
abbrev IsLate : Option Refusal → Type 0
IsLate None = Unit {0}
IsLate (Some (refusal.Range plan step)) = Unit {0}
IsLate (Some why) = ⊥

IsLate-range : (name : List ℕ) (o : Option ℕ) (other : Option Refusal) → IsLate other → IsLate (range_or name o other)
IsLate-range name (Some step) other late = tt
IsLate-range name None other late = late

IsLate-misfit : (types : List SourceType) (F : Family) (plans : List PlanState) → IsLate (first_misfit types F plans)
IsLate-misfit types F [] = tt
IsLate-misfit types F (plan ∷ plans) =
    IsLate-range plan.name (misfit plan.plan types F) (first_misfit types F plans) (IsLate-misfit types F plans)

-- of an outcome, and what it would be without plans
abbrev pub Shows : State → State × Reply → State × Reply → Type 0
Shows state outcome without = IsWorkAfter state outcome.0 outcome.1 (Some (outcome_steps state without))

Shows-updated_at : (out below : Option ℕ) (unfit : Option Refusal) (state : State) (sources : List SourceState) (count : ℕ) → IsLate unfit
    → Shows state (updated_at out below unfit state (record state { sources = sources }) count)
    (updated_at out below None (without_plans state) (record (without_plans state) { sources = sources }) count)
Shows-updated_at (Some place) below unfit state sources count late = refl
Shows-updated_at None (Some place) unfit state sources count late = refl
Shows-updated_at None None (Some (refusal.Range plan step)) state sources count late = tt
Shows-updated_at None None (Some why) state sources count late = absurd late
Shows-updated_at None None None state sources count late = refl

Shows-updated_by : (state : State) (at : ℕ) (source : SourceState) (r : Result (List Weighted) BadRecord)
    → Shows state (updated_by state at source r) (updated_by (without_plans state) at source r)
unfolding added_at
Shows-updated_by state at source (Err bad) = refl
Shows-updated_by state at source (Ok added) =
    let sources = slice_set state.sources at (with_weights source added) in
    Shows-updated_at (first_weight_out_of_range source.rows (entries_of added)) (below_zero source added)
    (first_misfit (types_of sources) (family_of sources) state.plans) state sources (length added)
    (IsLate-misfit (types_of sources) (family_of sources) state.plans)

pub Shows-updated_of : (o : Option SourceState) (state : State) (name csv : List ℕ) (header : Bool)
    → Shows state (updated_of o state name csv header) (updated_of o (without_plans state) name csv header)
Shows-updated_of None state name csv header = refl
Shows-updated_of (Some source) state name csv header =
    Shows-updated_by state (index_named source_name name state.sources) source (changes_of csv source.kinds header)

Shows-loaded_by : (fetched : Fetched) (state : State) (at : ℕ) (source : SourceState) (header : Bool)
    → Shows state (loaded_by fetched state at source header) (loaded_by fetched (without_plans state) at source header)
Shows-loaded_by (Content csv) state at source header = Shows-updated_by state at source (changes_of csv source.kinds header)
Shows-loaded_by Long state at source header = refl
Shows-loaded_by Missing state at source header = refl
Shows-loaded_by Failed state at source header = refl
Shows-loaded_by Nothing state at source header = refl

pub Shows-loaded_of : (o : Option SourceState) (state : State) (name : List ℕ) (header : Bool) (fetched : Fetched)
    → Shows state (loaded_of o state name header fetched) (loaded_of o (without_plans state) name header fetched)
Shows-loaded_of None state name header fetched = refl
Shows-loaded_of (Some source) state name header fetched =
    Shows-loaded_by fetched state (index_named source_name name state.sources) source header
