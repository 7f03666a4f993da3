-- Weights that are added to a source, and what follows in the plans.
use Rattle.std.specs.Prelude.{ℕ, Bool, List, [], ◌∷◌, length, slice_set, if◌then◌else◌, Option, None, Some, Result, Ok, Err}
use Rattle.datasets.specs.Dataset.{at, with_added, first_weight_out_of_range, first_negative}
use Rattle.plan_model.specs.Evaluation.{Family}
use Rattle.plan_model.specs.Fits.{misfit}
use Rattle.plan_model.specs.declared.source_types.SourceType.{SourceType}
use Rattle.weighted_set.specs.Changes.{entries_of}
use Rattle.weighted_set.specs.declared.weighted.Weighted.{Weighted}
use Rattle.csv_changes.specs.Changes.{BadRecord, changes_of}
use Rattle.messages.specs.declared.refusal.Refusal.{Refusal}
use Rattle.messages.specs.declared.refusal.Refusal.TheVariants as refusal
use Rattle.messages.specs.declared.thing.Thing.TheVariants as thing
use Rattle.messages.specs.declared.reply.Reply.{Reply}
use Rattle.messages.specs.declared.reply.Reply.TheVariants as reply
use Rattle.request_machine.specs.Named.{first_named, index_named, source_name}
use Rattle.request_machine.specs.State.{PlanState, SourceState, State, family_of, types_of}

-- a refusal of this plan's step, or else the other
abbrev pub range_or : List ℕ → Option ℕ → Option Refusal → Option Refusal
range_or name (Some step) other = Some (refusal.Range name step)
range_or name None other = other

-- the first plan that doesn't fit a family, with the first step that doesn't
abbrev pub first_misfit : List SourceType → Family → List PlanState → Option Refusal
first_misfit types F [] = None
first_misfit types F (plan ∷ plans) = range_or plan.name (misfit plan.plan types F) (first_misfit types F plans)

-- what adding weights answers, where these places are out of range and end below 0, and this plan doesn't fit
abbrev pub updated_at : Option ℕ → Option ℕ → Option Refusal → State → State → ℕ → State × Reply
updated_at (Some out) below unfit state new count = (state, reply.Refused (refusal.RecordRange out))
updated_at None (Some below) unfit state new count = (state, reply.Refused (refusal.Negative below))
updated_at None None (Some why) state new count = (state, reply.Refused why)
updated_at None None None state new count = (new, reply.Records count)

-- the state with these sources, and the reply to what changed them
abbrev pub updated_to : State → List SourceState → ℕ → State × Reply
updated_to state sources count = (record state { sources = sources }, reply.Records count)

-- the same, unless a plan doesn't fit these sources
abbrev pub followed : State → List SourceState → ℕ → State × Reply
followed state sources count =
    updated_at None None (first_misfit (types_of sources) (family_of sources) state.plans)
    state (record state { sources = sources }) count

-- the first place whose row ends below 0, where that is not allowed
abbrev pub below_zero : SourceState → List Weighted → Option ℕ
below_zero source added = if source.signed then None else first_negative source.rows (entries_of added)

-- the source with weights added
abbrev pub with_weights : SourceState → List Weighted → SourceState
with_weights source added = record source { rows = with_added source.rows (entries_of added) }

-- the state with this source at a place
abbrev pub with_source : State → ℕ → SourceState → State
with_source state at source = record state { sources = slice_set state.sources at source }

-- the state and the reply after weights are added to the source at a place
unfoldable pub added_at : State → ℕ → SourceState → List Weighted → State × Reply
added_at state at source added =
    let new = with_source state at (with_weights source added) in
    updated_at (first_weight_out_of_range source.rows (entries_of added)) (below_zero source added)
    (first_misfit (types_of new.sources) (family_of new.sources) state.plans) state new (length added)

-- of the changes that a CSV text denotes, or the record that is none
abbrev pub updated_by : State → ℕ → SourceState → Result (List Weighted) BadRecord → State × Reply
updated_by state at source (Err bad) = (state, reply.Refused (refusal.Csv bad.at bad.what))
updated_by state at source (Ok added) = added_at state at source added

abbrev pub updated_of : Option SourceState → State → List ℕ → List ℕ → Bool → State × Reply
updated_of None state name csv header = (state, reply.Refused (refusal.Unknown thing.Source name))
updated_of (Some source) state name csv header =
    updated_by state (index_named source_name name state.sources) source (changes_of csv source.kinds header)

unfoldable pub updated : State → List ℕ → List ℕ → Bool → State × Reply
updated state name csv header = updated_of (first_named source_name name state.sources) state name csv header
