-- What is fetched for a request.
use Rattle.std.specs.Prelude.{◌≡◌, ◌≤◌, ℕ, Option, Result}
use Rattle.io_edge.specs.Causes.{Rose}
use Rattle.io_edge.specs.Shelf.{Files}
use Rattle.messages.specs.declared.refusal.Refusal.{Refusal}
use Rattle.messages.specs.declared.request.Request.{Request}
use Rattle.request_machine.specs.Fetches.{Failed, Fetched, MayFetch}

-- the call fetched what may be given for what is asked, a fault only where the shelf had one, and this holds of it
pub record FetchesAnd (files : Option Files) (faults_before faults_now : ℕ) (asked : Result Request Refusal) (P : Fetched → Type 0) : Type 0 where
  pub fetched : Fetched
  pub may_fetch : MayFetch files asked fetched
  pub later : faults_before ≤ faults_now
  pub failed : fetched ≡ Failed → Rose faults_before faults_now
  pub holds : P fetched
