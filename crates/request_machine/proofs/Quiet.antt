-- Only a measurement is refused for noise, and only a load for the shelf's sake.
use Rattle.std.proofs.Common.{ℕ, List, [], ◌∷◌, Bool, true, false, Option, Some, None, Result, Ok, Err, cond, length, nat_le, ◌+◌, ◌++◌, not}
use Rattle.std.specs.Option.{option_map, option_map_or}
use Rattle.ratios.specs.Ratio.{Ratio}
use Rattle.ratios.specs.Sums.{first_out_of_range, ratio_sum}
use Rattle.csv_changes.specs.Changes.{BadRecord, changes_of}
use Rattle.budget_book.specs.declared.short.Short.{Short}
use Rattle.datasets.specs.Dataset.{Dataset, at, first_weight_out_of_range}
use Rattle.datasets.specs.Entries.{Row, has_row}
use Rattle.record_text.specs.KindLists.{kinds_eq, kinds_of}
use Rattle.record_text.specs.declared.kinds.Kind.{Kind}
use Rattle.plan_model.specs.Acceptance.{Fault, plan_fault_of}
use Rattle.plan_model.specs.Evaluation.{Family}
use Rattle.plan_model.specs.Fits.{misfit}
use Rattle.plan_model.specs.declared.source_types.SourceType.{SourceType}
use Rattle.weighted_set.specs.Changes.{entries_of}
use Rattle.weighted_set.specs.declared.weighted.Weighted.{Weighted}
use Rattle.request_text.specs.Requests.{request_on}
use Rattle.messages.specs.declared.refusal.Refusal.{Refusal}
use Rattle.messages.specs.declared.refusal.Refusal.TheVariants as refusal
use Rattle.messages.specs.declared.request.Request.{Request}
use Rattle.messages.specs.declared.request.Request.TheVariants as request
use Rattle.messages.specs.declared.target.Target.{Target}
use Rattle.messages.specs.declared.target.Target.TheVariants as target
use Rattle.messages.specs.declared.reply.Reply.{Reply}
use Rattle.messages.specs.declared.reply.Reply.TheVariants as reply
use Rattle.request_machine.specs.Charges.{budget_refusal, charges_of, short_refusal}
use Rattle.request_machine.specs.Declarations.{columns_of, declared, declared_of, dropped, dropped_of, misfit_on, planned, planned_at, planned_of}
use Rattle.request_machine.specs.Fetches.{Content, Failed, Fetched, Long, Missing, Nothing}
use Rattle.request_machine.specs.Loads.{loaded, loaded_by, loaded_of}
use Rattle.request_machine.specs.LookUps.{exact_in_plan, exact_in_source, exact_reply, first_row_fault, looked_up, output_of, row_refusal}
use Rattle.request_machine.specs.Machine.{answered, performed, stage}
use Rattle.request_machine.specs.Measures.{budget_of_named, budget_reply, measured, measured_of, measured_unless, measurement}
use Rattle.request_machine.specs.Named.{first_named, index_named, plan_name, source_name}
use Rattle.request_machine.specs.Stages.{Measured, Measurement, Stage, Told}
use Rattle.request_machine.specs.State.{PlanState, SourceState, State, family_of, types_of}
use Rattle.request_machine.specs.Updates.{added_at, below_zero, first_misfit, range_or, updated, updated_at, updated_by, updated_of, with_source, with_weights}
use Rattle.request_machine.proofs.QuietReading.{IsQuiet, IsQuietResult, quiet_request}

-- no file was given
abbrev pub GaveNone : Fetched → Type 0
GaveNone Failed = Unit {0}
GaveNone Nothing = Unit {0}
GaveNone fetched = ⊥

-- no file was given where one is asked for
abbrev pub LacksFile : Result Request Refusal → Fetched → Type 0
LacksFile (Ok (request.Load name path header)) fetched = GaveNone fetched
LacksFile asked fetched = ⊥

module _ (Cause : Type 0) where
  -- a reply that refuses does so for no device, or for a file where there is a cause
  abbrev pub IsQuietReply : Reply → Type 0
  IsQuietReply (reply.Refused why) = IsQuiet Cause why
  IsQuietReply answer = Unit {0}

  abbrev IsQuietRefusal : Option Refusal → Type 0
  IsQuietRefusal None = Unit {0}
  IsQuietRefusal (Some why) = IsQuiet Cause why

  abbrev pub IsQuietStage : Stage → Type 0
  IsQuietStage (Told new answer) = IsQuietReply answer
  IsQuietStage (Measured m) = Unit {0}

  unless : (o : Option Refusal) (answer : Reply) → IsQuietRefusal o → IsQuietReply answer → IsQuietReply (option_map_or (λ why. reply.Refused why) o answer)
  unless None answer q h = h
  unless (Some why) answer q h = q

  either : (b : Bool) (r s : State × Reply) → IsQuietReply r.1 → IsQuietReply s.1 → IsQuietReply ((cond b r s).1)
  either true r s q h = q
  either false r s q h = h

  -- ---- sums and declarations

  quiet-sum_of : (o : Option ℕ) (sum : Ratio) → IsQuietReply (option_map_or (λ at. reply.Refused (refusal.SumRange at)) o (reply.SumOf sum))
  quiet-sum_of None sum = tt
  quiet-sum_of (Some place) sum = tt

  quiet-declared_of : (o : Option SourceState) (state : State) (new : SourceState) → IsQuietReply ((declared_of o state new).1)
  quiet-declared_of (Some other) state new = tt
  quiet-declared_of None state new = either (nat_le 16 (length state.sources)) _ _ tt tt

  quiet-planned_at : (fault : Option Fault) (out : Option ℕ) (state : State) (new : PlanState) → IsQuietReply ((planned_at fault out state new).1)
  quiet-planned_at (Some fault) out state new = tt
  quiet-planned_at None (Some place) state new = tt
  quiet-planned_at None None state new = tt

  quiet-planned_of : (o : Option PlanState) (state : State) (new : PlanState) → IsQuietReply ((planned_of o state new).1)
  quiet-planned_of (Some other) state new = tt
  quiet-planned_of None state new =
      either (nat_le 32 (length state.plans)) _ _ tt (quiet-planned_at (plan_fault_of new.plan (types_of state.sources)) (misfit_on state.sources new.plan) state new)

  quiet-dropped_of : (o : Option PlanState) (state : State) (name : List ℕ) → IsQuietReply ((dropped_of o state name).1)
  quiet-dropped_of None state name = tt
  quiet-dropped_of (Some plan) state name = tt

  -- ---- updates

  quiet-range : (name : List ℕ) (o : Option ℕ) (other : Option Refusal) → IsQuietRefusal other → IsQuietRefusal (range_or name o other)
  quiet-range name (Some place) other q = tt
  quiet-range name None other q = q

  quiet-misfit : (types : List SourceType) (F : Family) (plans : List PlanState) → IsQuietRefusal (first_misfit types F plans)
  quiet-misfit types F [] = tt
  quiet-misfit types F (plan ∷ plans) = quiet-range plan.name (misfit plan.plan types F) (first_misfit types F plans) (quiet-misfit types F plans)

  quiet-updated_at : (out below : Option ℕ) (unfit : Option Refusal) (state new : State) (count : ℕ) → IsQuietRefusal unfit → IsQuietReply ((updated_at out below unfit state new count).1)
  quiet-updated_at (Some place) below unfit state new count q = tt
  quiet-updated_at None (Some place) unfit state new count q = tt
  quiet-updated_at None None (Some why) state new count q = q
  quiet-updated_at None None None state new count q = tt

  quiet-updated_by : (state : State) (at : ℕ) (source : SourceState) (r : Result (List Weighted) BadRecord) → IsQuietReply ((updated_by state at source r).1)
  unfolding added_at
  quiet-updated_by state at source (Err bad) = tt
  quiet-updated_by state at source (Ok added) =
      let new = with_source state at (with_weights source added) in
      quiet-updated_at (first_weight_out_of_range source.rows (entries_of added)) (below_zero source added) (first_misfit (types_of new.sources) (family_of new.sources) state.plans)
      state new (length added) (quiet-misfit (types_of new.sources) (family_of new.sources) state.plans)

  quiet-updated_of : (o : Option SourceState) (state : State) (name csv : List ℕ) (header : Bool) → IsQuietReply ((updated_of o state name csv header).1)
  quiet-updated_of None state name csv header = tt
  quiet-updated_of (Some source) state name csv header =
      quiet-updated_by state (index_named source_name name state.sources) source (changes_of csv source.kinds header)

  -- ---- loads

  quiet-loaded_by : (fetched : Fetched) (state : State) (at : ℕ) (source : SourceState) (header : Bool) → (GaveNone fetched → Cause) → IsQuietReply ((loaded_by fetched state at source header).1)
  quiet-loaded_by (Content csv) state at source header cause = quiet-updated_by state at source (changes_of csv source.kinds header)
  quiet-loaded_by Long state at source header cause = tt
  quiet-loaded_by Missing state at source header cause = tt
  quiet-loaded_by Failed state at source header cause = cause tt
  quiet-loaded_by Nothing state at source header cause = cause tt

  quiet-loaded_of : (o : Option SourceState) (state : State) (name : List ℕ) (header : Bool) (fetched : Fetched) → (GaveNone fetched → Cause) → IsQuietReply ((loaded_of o state name header fetched).1)
  quiet-loaded_of None state name header fetched cause = tt
  quiet-loaded_of (Some source) state name header fetched cause =
      quiet-loaded_by fetched state (index_named source_name name state.sources) source header cause

  -- ---- look-ups

  refusal_if : (b : Bool) (o p : Option Refusal) → IsQuietRefusal o → IsQuietRefusal p → IsQuietRefusal (cond b o p)
  refusal_if true o p q h = q
  refusal_if false o p q h = h

  quiet-rows : (kinds : List Kind) (before : List Row) (place : ℕ) (rows : List Row) → IsQuietRefusal (first_row_fault kinds before place rows)
  quiet-rows kinds before place [] = tt
  quiet-rows kinds before place (row ∷ rows) =
      refusal_if (not (kinds_eq (kinds_of row) kinds)) _ _ tt
      (refusal_if (has_row before row) _ _ tt (quiet-rows kinds (before ++ row ∷ []) (place + 1) rows))

  quiet-row_refusal : (curator : Bool) (kinds : List Kind) (rows : List Row) → IsQuietRefusal (row_refusal curator kinds rows)
  quiet-row_refusal false kinds rows = tt
  quiet-row_refusal true kinds rows = quiet-rows kinds [] 0 rows

  quiet-looked_up : (curator : Bool) (kinds : List Kind) (A : Dataset) (rows : List Row) → IsQuietReply (looked_up curator kinds A rows)
  quiet-looked_up curator kinds A rows = unless (row_refusal curator kinds rows) _ (quiet-row_refusal curator kinds rows) tt

  quiet-exact_in_source : (o : Option SourceState) (curator : Bool) (name : List ℕ) (rows : List Row) → IsQuietReply (exact_in_source o curator name rows)
  quiet-exact_in_source None curator name rows = tt
  quiet-exact_in_source (Some source) curator name rows = quiet-looked_up curator source.kinds source.rows rows

  quiet-exact_in_plan : (o : Option PlanState) (state : State) (name : List ℕ) (rows : List Row) → IsQuietReply (exact_in_plan o state name rows)
  quiet-exact_in_plan None state name rows = tt
  quiet-exact_in_plan (Some plan) state name rows = quiet-looked_up state.curator (columns_of state.sources plan.plan) (output_of state.sources plan.plan) rows

  quiet-exact : (state : State) (of : Target) (rows : List Row) → IsQuietReply (exact_reply state of rows)
  unfolding exact_reply
  quiet-exact state (target.Source name) rows = quiet-exact_in_source (first_named source_name name state.sources) state.curator name rows
  quiet-exact state (target.Plan name) rows = quiet-exact_in_plan (first_named plan_name name state.plans) state name rows

  -- ---- budgets and measurements

  quiet-budget_of : (o : Option SourceState) (name : List ℕ) → IsQuietReply (budget_of_named o name)
  quiet-budget_of None name = tt
  quiet-budget_of (Some source) name = tt

  quiet-short : (sources : List SourceState) (o : Option Short) → IsQuietRefusal (option_map (short_refusal sources) o)
  quiet-short sources None = tt
  quiet-short sources (Some short) = tt

  quiet-unless : (fault short : Option Refusal) (state : State) (m : Measurement) → IsQuietRefusal fault → IsQuietRefusal short → IsQuietStage (measured_unless fault short state m)
  quiet-unless (Some why) short state m q h = q
  quiet-unless None (Some why) state m q h = h
  quiet-unless None None state m q h = tt

  quiet-measured_of : (o : Option PlanState) (state : State) (name : List ℕ) (rows : List Row) (epsilon : ℕ) → IsQuietStage (measured_of o state name rows epsilon)
  quiet-measured_of None state name rows epsilon = tt
  quiet-measured_of (Some plan) state name rows epsilon =
      quiet-unless (first_row_fault (columns_of state.sources plan.plan) [] 0 rows) (budget_refusal state.sources (charges_of epsilon plan.plan (types_of state.sources))) state
      (measurement state plan.plan rows epsilon) (quiet-rows (columns_of state.sources plan.plan) [] 0 rows) (quiet-short state.sources _)

  -- ---- all lines

  quiet-performed : (state : State) (r : Request) (fetched : Fetched) → (LacksFile (Ok r) fetched → Cause) → IsQuietStage (performed state r fetched)
  unfolding declared planned dropped updated loaded budget_reply measured
  quiet-performed state (request.Sum weights) fetched cause = quiet-sum_of (first_out_of_range weights) (ratio_sum weights)
  quiet-performed state (request.Source name kinds signed budget) fetched cause = quiet-declared_of (first_named source_name name state.sources) state _
  quiet-performed state (request.Update name csv header) fetched cause = quiet-updated_of (first_named source_name name state.sources) state name csv header
  quiet-performed state (request.Load name path header) fetched cause = quiet-loaded_of (first_named source_name name state.sources) state name header fetched cause
  quiet-performed state (request.Plan name plan) fetched cause = quiet-planned_of (first_named plan_name name state.plans) state _
  quiet-performed state (request.Drop name) fetched cause = quiet-dropped_of (first_named plan_name name state.plans) state name
  quiet-performed state (request.Exact of rows) fetched cause = quiet-exact state of rows
  quiet-performed state (request.Measure name rows epsilon) fetched cause = quiet-measured_of (first_named plan_name name state.plans) state name rows epsilon
  quiet-performed state (request.Budget name) fetched cause = quiet-budget_of (first_named source_name name state.sources) name

  quiet-answered : (state : State) (asked : Result Request Refusal) (fetched : Fetched) → IsQuietResult Cause asked → (LacksFile asked fetched → Cause)
      → IsQuietStage (answered state asked fetched)
  quiet-answered state (Err why) fetched q cause = q
  quiet-answered state (Ok r) fetched q cause = quiet-performed state r fetched cause

  pub quiet-stage : (state : State) (line : List ℕ) (fetched : Fetched) → (LacksFile (request_on line) fetched → Cause) → IsQuietStage (stage state line fetched)
  unfolding stage
  quiet-stage state line fetched cause = quiet-answered state (request_on line) fetched (quiet_request Cause line) cause
