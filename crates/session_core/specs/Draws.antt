-- What is drawn for a request.
use Rattle.std.specs.Prelude.{◌≡◌, ℕ, ℤ, ◌≤◌, ◌<◌, All, List, length, map, Option, None, Some, Result, Ok, Err, IfOk}
use Rattle.std.specs.declared.alloc.AllocError.{AllocError}
use Rattle.io_edge.specs.Causes.{Rose}
use Rattle.io_edge.specs.Known.{Gains}
use Rattle.ratios.specs.Ratio.{Ratio}
use Rattle.request_machine.specs.Stages.{LacksNoise, MayTake, Stage, finished, released}
use Rattle.session_core.specs.Outcomes.{Does}
use Rattle.session_core.specs.Parts.{state_of}
use Rattle.session_core.specs.declared.outcome.Outcome.{Outcome}
use Rattle.session_core.specs.declared.parts.Parts.{Parts}

-- the second parts of the pairs
abbrev pub numbers : List (ℕ × ℤ) → List ℤ
numbers given = map (λ (pair : ℕ × ℤ). pair.1) given

-- values with a number each; fewer numbers where the noise failed; any number of them where there was no memory
abbrev pub IsRelease : List Ratio → List (ℕ × ℤ) → Result (Option (List ℤ)) AllocError → Type 0
IsRelease weights given (Ok (Some values)) = (length given ≡ length weights) × (values ≡ released weights (numbers given))
IsRelease weights given (Ok None) = length given < length weights
IsRelease weights given (Err e) = length given ≤ length weights

-- the call drew these pairs, each at the epsilon, and stopped early only for a fault of the noise or want of memory
pub record Draws (before after : Option (List (ℕ × ℤ))) (faults_before faults_now epsilon : ℕ) (weights : List Ratio) (result : Result (Option (List ℤ)) AllocError) : Type 0 where
  pub given : List (ℕ × ℤ)
  pub drawn : Gains before after given
  pub each : All (λ (pair : ℕ × ℤ). pair.0 ≡ epsilon) given
  pub releases : IsRelease weights given result
  pub later : faults_before ≤ faults_now
  pub failed : result ≡ Ok None → Rose faults_before faults_now

-- the call drew pairs that the stage may take, and came to what follows from them; it drew too few only for a fault of
-- the noise or want of memory
pub record Responds (before after : Option (List (ℕ × ℤ))) (faults_before faults_now : ℕ) (result : Result Outcome AllocError) (old new : Parts) (stage : Stage) : Type 0 where
  pub given : List (ℕ × ℤ)
  pub drawn : Gains before after given
  pub may_take : MayTake stage given
  pub does : Does result old new (finished (state_of old) stage (numbers given))
  pub later : faults_before ≤ faults_now
  pub failed : IfOk result (λ outcome. LacksNoise stage (numbers given) → Rose faults_before faults_now)
