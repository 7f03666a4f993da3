-- What is fetched for a line.
use Rattle.std.proofs.Common.{◌≡◌, ◌≤◌, ◌∙◌, ℕ, Bool, List, refl, sym, arith, Ok, Some, Option, Result}
use Rattle.std.proofs.lemmas.Option.{get_or_from_slice_get}
use Rattle.io_edge.specs.Shelf.{Files}
use Rattle.messages.specs.declared.refusal.Refusal.{Refusal}
use Rattle.messages.specs.declared.reply.Reply.TheVariants as reply
use Rattle.messages.specs.declared.request.Request.{Request}
use Rattle.request_machine.specs.Fetches.{Fetched, MayFetch, Nothing}
use Rattle.request_machine.specs.Loads.{loaded, loaded_by}
use Rattle.request_machine.specs.Named.{place_named, source_name}
use Rattle.request_machine.specs.State.{SourceState}
use Rattle.request_machine.proofs.Loading.{loaded_known, surely}
use Rattle.request_machine.proofs.Outcomes.{place_within}
use Rattle.session_data.proofs.Turned.{somewhere}
use Rattle.session_core.specs.Fetching.{FetchesAnd}
use Rattle.session_core.specs.Outcomes.{Does}
use Rattle.session_core.specs.Parts.{AreSettled, state_of}
use Rattle.session_core.specs.declared.outcome.Effect.TheVariants as effect
use Rattle.session_core.specs.declared.outcome.Outcome.{Outcome}
use Rattle.session_core.specs.declared.parts.Parts.{Parts}
use Rattle.session_core.proofs.ComesTo.{Does-told}

-- nothing is fetched where no file is asked for
pub FetchesAnd-nothing : (files : Option Files) (faults : ℕ) (asked : Result Request Refusal) (P : Fetched → Type 0)
    → MayFetch files asked Nothing → P Nothing → FetchesAnd files faults faults asked P
FetchesAnd-nothing files faults asked P may h =
    record { fetched = Nothing; may_fetch = may; later = omega arith; failed = λ f. cc; holds = h }

-- the same where it doesn't matter what was fetched, and the shelf may have failed
pub FetchesAnd-any : (files : Option Files) (faults_before faults_now : ℕ) (asked : Result Request Refusal) (P : Fetched → Type 0)
    → faults_before ≤ faults_now → ((fetched : Fetched) → P fetched) → FetchesAnd files faults_before faults_now asked P
FetchesAnd-any files faults_before faults_now asked P later h =
    let sure = surely files asked in
    record { fetched = sure.fetched; may_fetch = sure.may_fetch; later = later; failed = λ f. absurd (sure.sure f); holds = h sure.fetched }

-- a load for which the shelf gave no file is refused
pub Does-no_file : (old : Parts) (name : List ℕ) (header : Bool) (fetched : Fetched) (at : ℕ) (outcome : Outcome) (why : Refusal) → AreSettled old → place_named source_name name old.sources.committed ≡ Some at
    → ((source : SourceState) → loaded_by fetched (state_of old) at source header ≡ (state_of old, reply.Refused why))
    → outcome.reply ≡ reply.Refused why → outcome.effect ≡ effect.Nothing → Does (Ok outcome) old old (loaded (state_of old) name header fetched)
Does-no_file old name header fetched at outcome why settled here refused told nothing =
    let sources = old.sources.committed in
    let there = somewhere sources at (place_within source_name name sources at here) in
    Does-told old outcome (reply.Refused why) (loaded (state_of old) name header fetched) settled told nothing
    (loaded_known (state_of old) name header fetched at there.0 here (sym (get_or_from_slice_get sources at there.0 there.0 there.1)) ∙ refused there.0)
