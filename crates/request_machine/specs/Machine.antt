-- The request machine, one line at a time.
use Rattle.std.specs.Prelude.{◌≡◌, ◌⊎◌, ℕ, ℤ, List, [], ◌∷◌, ◌++◌, map, codes, Option, Result, Ok, Err, MatchResult}
use Rattle.std.specs.declared.alloc.AllocError.{AllocError}
use Rattle.io_edge.specs.Causes.{Rose}
use Rattle.io_edge.specs.Known.{Gains}
use Rattle.io_edge.specs.Shelf.{Files}
use Rattle.line_runs.specs.Runs.{Answering}
use Rattle.request_text.specs.Requests.{request_on}
use Rattle.reply_text.specs.Replies.{reply_line}
use Rattle.messages.specs.declared.refusal.Refusal.{Refusal}
use Rattle.messages.specs.declared.request.Request.{Request}
use Rattle.messages.specs.declared.request.Request.TheVariants as request
use Rattle.messages.specs.declared.reply.Reply.TheVariants as reply
use Rattle.request_machine.specs.Declarations.{declared, dropped, planned, sum_reply}
use Rattle.request_machine.specs.Fetches.{Failed, Fetched, MayFetch, Nothing}
use Rattle.request_machine.specs.Loads.{loaded}
use Rattle.request_machine.specs.LookUps.{exact_reply}
use Rattle.request_machine.specs.Measures.{budget_reply, measured}
use Rattle.request_machine.specs.Stages.{MayTake, Stage, Told, finished, told_by}
use Rattle.request_machine.specs.State.{State, new_plan, new_source}
use Rattle.request_machine.specs.Updates.{updated}

-- what a request comes to before noise is drawn, where this was fetched for it
abbrev pub performed : State → Request → Fetched → Stage
performed state (request.Sum weights) fetched = Told state (sum_reply weights)
performed state (request.Source name kinds signed budget) fetched = told_by (declared state (new_source name kinds signed budget))
performed state (request.Update name csv header) fetched = told_by (updated state name csv header)
performed state (request.Load name path header) fetched = told_by (loaded state name header fetched)
performed state (request.Plan name plan) fetched = told_by (planned state (new_plan name plan))
performed state (request.Drop name) fetched = told_by (dropped state name)
performed state (request.Exact of rows) fetched = Told state (exact_reply state of rows)
performed state (request.Measure name rows epsilon) fetched = measured state name rows epsilon
performed state (request.Budget name) fetched = Told state (budget_reply state name)

abbrev pub answered : State → Result Request Refusal → Fetched → Stage
answered state (Err why) fetched = Told state (reply.Refused why)
answered state (Ok request) fetched = performed state request fetched

-- what a line comes to before noise is drawn
unfoldable pub stage : State → List ℕ → Fetched → Stage
stage state line fetched = answered state (request_on line) fetched

-- the state after a line, and the line of its reply, where this was drawn and fetched
unfoldable pub step : State → List ℕ → List ℤ → Fetched → State × List ℕ
step state line drawn fetched =
    let outcome = finished state (stage state line fetched) drawn in (outcome.0, reply_line outcome.1)

-- ---- what a run sees of a line

-- what was fetched is what the line may be given, the pairs of epsilon and noise are ones that it may take, and it is
-- answered by the step with these
pub record Stepped (files : Option Files) (old : State) (line : List ℕ) (given : List (ℕ × ℤ)) (fetched : Fetched) (reply : List ℕ) (new : State) : Type 0 where
  pub may_fetch : MayFetch files (request_on line) fetched
  pub may_take : MayTake (stage old line fetched) given
  pub stepped : (new, reply) ≡ step old line (map (λ pair. pair.1) given) fetched

-- there was no memory for the line, which changes nothing but for the noise that it took
pub record GaveUp (old : State) (line : List ℕ) (given : List (ℕ × ℤ)) (new : State) : Type 0 where
  pub may_take : MayTake (stage old line Nothing) given
  pub unchanged : new ≡ old

-- the reply to every line for which there was no memory
abbrev pub memory_line : List ℕ
memory_line = codes "{\"ok\":false,\"why\":\"memory\"}" ++ 10 ∷ []

-- the reply to a measurement for which the noise failed
abbrev pub noise_line : List ℕ
noise_line = codes "{\"ok\":false,\"why\":\"noise\"}" ++ 10 ∷ []

-- the reply to a load for which the shelf failed
abbrev pub file_line : List ℕ
file_line = codes "{\"ok\":false,\"why\":\"file\"}" ++ 10 ∷ []

-- From the state old, with these files on the shelf where they are known, the line takes the pairs `given` of noise, has
-- this reply and leads to the state new.
unfoldable pub Answers : Option Files → Answering State
Answers files old line given reply new =
    ((fetched : Fetched) × Stepped files old line given fetched reply new)
    ⊎ ((reply ≡ memory_line) × GaveUp old line given new)

-- What a call for one line does, where these are what is known of the shelf's files, its counts of faults before and
-- after, and what is known of the noise before and after.
pub record LineAnswered (files : Option Files) (faults_before faults_now : ℕ) (before after : Option (List (ℕ × ℤ))) (old : State) (line : List ℕ) (result : Result (Unit {0}) AllocError) (reply : List ℕ) (new : State) : Type 0 where
  pub given : List (ℕ × ℤ)
  pub fetched : Fetched
  pub drawn : Gains before after given
  pub failed : fetched ≡ Failed → Rose faults_before faults_now
  pub answer : MatchResult result (λ _. Stepped files old line given fetched reply new) (λ _. GaveUp old line given new)
