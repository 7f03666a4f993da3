-- How many steps a line takes.
use Rattle.std.specs.Prelude.{◌≡◌, ⊤, ℕ, ℤ, ◌+◌, ◌*◌, ◌≤◌, List, [], length, Option, None, Some, Result, Ok}
use Rattle.std.specs.declared.alloc.AllocError.{AllocError}
use Rattle.io_edge.specs.Shelf.{Files}
use Rattle.messages.specs.declared.refusal.Refusal.{Refusal}
use Rattle.messages.specs.declared.reply.Reply.{Reply}
use Rattle.messages.specs.declared.reply.Reply.TheVariants as reply
use Rattle.messages.specs.declared.request.Request.{Request}
use Rattle.messages.specs.declared.request.Request.TheVariants as request
use Rattle.request_text.specs.Requests.{request_on}
use Rattle.request_machine.specs.Fetches.{Fetched, MayFetch}
use Rattle.request_machine.specs.Loads.{loaded}
use Rattle.request_machine.specs.Machine.{LineAnswered}
use Rattle.request_machine.specs.State.{State, family_of, types_of}
use Rattle.request_machine.specs.Updates.{updated}
use Rattle.session_data.specs.Work.{follow_steps}

-- the state without its plans
abbrev pub without_plans : State → State
without_plans state = record state { plans = [] }

-- none after a refusal
abbrev pub unless_refused : Reply → ℕ → ℕ
unless_refused (reply.Refused why) steps = 0
unless_refused answer steps = steps

-- the steps in which the plans of a state follow its sources to what they are to be, unless that is refused
abbrev pub outcome_steps : State → State × Reply → ℕ
outcome_steps state outcome =
    unless_refused outcome.1
    (follow_steps state.plans (types_of state.sources) (family_of state.sources) (family_of outcome.0.sources))

-- the work of a line in a state, where this was fetched for it: for an update or a load the steps in which the plans follow what
-- it comes to without them; two for each row that is looked up; no bound for the declaration of a plan; none for other lines
abbrev pub line_work : State → Result Request Refusal → Fetched → Option ℕ
line_work state (Ok (request.Update name csv header)) fetched =
    Some (outcome_steps state (updated (without_plans state) name csv header))
line_work state (Ok (request.Load name path header)) fetched =
    Some (outcome_steps state (loaded (without_plans state) name header fetched))
line_work state (Ok (request.Plan name plan)) fetched = None
line_work state (Ok (request.Exact of rows)) fetched = Some (2 * length rows)
line_work state (Ok (request.Measure name rows epsilon)) fetched = Some (2 * length rows)
line_work state asked fetched = Some 0

-- at most so many steps were taken, where there is a bound
abbrev pub TakesWithin : Option ℕ → ℕ → ℕ → Type 0
TakesWithin None old new = ⊤
TakesWithin (Some work) old new = new ≤ old + work

-- what a call for one line does, and that its steps are within the work of the line, where the same was fetched
pub record LineWorked (files : Option Files) (faults_before faults_now : ℕ) (before after : Option (List (ℕ × ℤ))) (steps_before steps_now : ℕ) (old : State) (line : List ℕ) (result : Result (Unit {0}) AllocError) (reply : List ℕ) (new : State) : Type 0 where
  pub line_answered : LineAnswered files faults_before faults_now before after old line result reply new
  pub may_fetch : MayFetch files (request_on line) line_answered.fetched
  pub within : TakesWithin (line_work old (request_on line) line_answered.fetched) steps_before steps_now
