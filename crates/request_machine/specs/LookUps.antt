-- Exact weights of rows.
use Rattle.std.specs.Prelude.{ℕ, ◌+◌, Bool, true, false, not, List, [], ◌∷◌, ◌++◌, map, if◌then◌else◌, Option, None, Some}
use Rattle.std.specs.Option.{option_map_or}
use Rattle.record_text.specs.KindLists.{kinds_of, kinds_eq}
use Rattle.record_text.specs.declared.kinds.Kind.{Kind}
use Rattle.datasets.specs.Entries.{Row, has_row}
use Rattle.datasets.specs.Dataset.{Dataset, at}
use Rattle.plan_model.specs.Evaluation.{eval}
use Rattle.plan_model.specs.declared.step.Step.{Step}
use Rattle.messages.specs.declared.refusal.Refusal.{Refusal}
use Rattle.messages.specs.declared.refusal.Refusal.TheVariants as refusal
use Rattle.messages.specs.declared.thing.Thing.TheVariants as thing
use Rattle.messages.specs.declared.target.Target.{Target}
use Rattle.messages.specs.declared.target.Target.TheVariants as target
use Rattle.messages.specs.declared.reply.Reply.{Reply}
use Rattle.messages.specs.declared.reply.Reply.TheVariants as reply
use Rattle.request_machine.specs.Declarations.{columns_of}
use Rattle.request_machine.specs.Named.{first_named, plan_name, source_name}
use Rattle.request_machine.specs.State.{PlanState, SourceState, State, family_of, types_of}

-- row by row, one that doesn't fit the columns or else equals an earlier one
abbrev pub first_row_fault : List Kind → List Row → ℕ → List Row → Option Refusal
first_row_fault kinds before at [] = None
first_row_fault kinds before at (row ∷ rows) =
    if not (kinds_eq (kinds_of row) kinds) then Some (refusal.Row at)
    else if has_row before row then Some (refusal.Repeat at)
    else first_row_fault kinds (before ++ row ∷ []) (at + 1) rows

-- why rows can't be looked up under these columns: without the curator none can, and else the first that can't
abbrev pub row_refusal : Bool → List Kind → List Row → Option Refusal
row_refusal false kinds rows = Some refusal.Curator
row_refusal true kinds rows = first_row_fault kinds [] 0 rows

-- the weights of the rows in a dataset of these columns, or why they can't be looked up
abbrev pub looked_up : Bool → List Kind → Dataset → List Row → Reply
looked_up curator kinds A rows =
    option_map_or (λ why. reply.Refused why) (row_refusal curator kinds rows) (reply.Weights (map (at A) rows))

abbrev pub exact_in_source : Option SourceState → Bool → List ℕ → List Row → Reply
exact_in_source None curator name rows = reply.Refused (refusal.Unknown thing.Source name)
exact_in_source (Some source) curator name rows = looked_up curator source.kinds source.rows rows

-- the output of a plan on the sources
abbrev pub output_of : List SourceState → List Step → Dataset
output_of sources plan = eval plan (types_of sources) (family_of sources)

abbrev pub exact_in_plan : Option PlanState → State → List ℕ → List Row → Reply
exact_in_plan None state name rows = reply.Refused (refusal.Unknown thing.Plan name)
exact_in_plan (Some plan) state name rows =
    looked_up state.curator (columns_of state.sources plan.plan) (output_of state.sources plan.plan) rows

unfoldable pub exact_reply : State → Target → List Row → Reply
exact_reply state (target.Source name) rows =
    exact_in_source (first_named source_name name state.sources) state.curator name rows
exact_reply state (target.Plan name) rows = exact_in_plan (first_named plan_name name state.plans) state name rows
