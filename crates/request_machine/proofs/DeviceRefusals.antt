-- Whose refusals the lines for want of memory, for noise and for a file are.
use Rattle.std.proofs.Common.{◌≡◌, ◌<◌, ℕ, List, Bool, true, false, refl, cond, length, nat_lt, arith, Option, Result, Ok}
use Rattle.std.specs.Prelude.{ℤ}
use Rattle.std.proofs.lemmas.Bool.{ltb-true}
use Rattle.io_edge.specs.Shelf.{Files}
use Rattle.request_text.specs.Requests.{request_on}
use Rattle.reply_text.specs.Replies.{reply_line}
use Rattle.messages.specs.declared.refusal.Refusal.{Refusal}
use Rattle.messages.specs.declared.refusal.Refusal.TheVariants as refusal
use Rattle.messages.specs.declared.reply.Reply.{Reply}
use Rattle.messages.specs.declared.reply.Reply.TheVariants as reply
use Rattle.messages.specs.declared.request.Request.{Request}
use Rattle.messages.specs.declared.request.Request.TheVariants as request
use Rattle.request_machine.specs.Fetches.{Failed, Fetched, Fetches, MayFetch, Nothing}
use Rattle.request_machine.specs.Machine.{file_line, memory_line, noise_line, stage, step}
use Rattle.request_machine.specs.Stages.{LacksNoise, Measured, Measurement, Stage, Told, finished, released}
use Rattle.request_machine.specs.State.{State}
use Rattle.request_machine.proofs.PlainLines.{BeginsPlain, HasReason, plain_reply}
use Rattle.request_machine.proofs.Quiet.{GaveNone, IsQuietReply, IsQuietStage, LacksFile, quiet-stage}

-- ---- the lines

begins-memory : BeginsPlain memory_line
begins-memory = record { o = refl; f = refl; w = refl; y = refl }

begins-noise : BeginsPlain noise_line
begins-noise = record { o = refl; f = refl; w = refl; y = refl }

begins-file : BeginsPlain file_line
begins-file = record { o = refl; f = refl; w = refl; y = refl }

no_reason-memory : (r : Reply) → ¬ (HasReason r memory_line)
no_reason-memory (reply.Refused refusal.Line) h = omega (arith, h)
no_reason-memory (reply.Refused refusal.Json) h = omega (arith, h)
no_reason-memory (reply.Refused refusal.Curator) h = omega (arith, h)
no_reason-memory (reply.Refused refusal.File) h = omega (arith, h)
no_reason-memory (reply.Refused refusal.FileMissing) h = omega (arith, h)
no_reason-memory (reply.Refused refusal.FileLong) h = omega (arith, h)
no_reason-memory (reply.Refused refusal.Noise) h = omega (arith, h)
no_reason-memory r h = h

-- no reply has the line for want of memory
pub no_reply-memory : (r : Reply) → ¬ (reply_line r ≡ memory_line)
no_reply-memory r e = no_reason-memory r (plain_reply r memory_line begins-memory e)

module _ (Cause : Type 0) where
  reason-noise : (r : Reply) → IsQuietReply Cause r → ¬ (HasReason r noise_line)
  reason-noise (reply.Refused refusal.Line) q h = omega (arith, h)
  reason-noise (reply.Refused refusal.Json) q h = omega (arith, h)
  reason-noise (reply.Refused refusal.Curator) q h = omega (arith, h)
  reason-noise (reply.Refused refusal.File) q h = omega (arith, h)
  reason-noise (reply.Refused refusal.FileMissing) q h = omega (arith, h)
  reason-noise (reply.Refused refusal.FileLong) q h = omega (arith, h)
  reason-noise (reply.Refused refusal.Noise) q h = q
  reason-noise r q h = h

  -- no quiet reply has the line for noise
  quiet-noise : (r : Reply) → IsQuietReply Cause r → ¬ (reply_line r ≡ noise_line)
  quiet-noise r q e = reason-noise r q (plain_reply r noise_line begins-noise e)

  reason-file : (r : Reply) → IsQuietReply Cause r → HasReason r file_line → Cause
  reason-file (reply.Refused refusal.Line) q h = absurd (omega (arith, h))
  reason-file (reply.Refused refusal.Json) q h = absurd (omega (arith, h))
  reason-file (reply.Refused refusal.Curator) q h = absurd (omega (arith, h))
  reason-file (reply.Refused refusal.File) q h = q
  reason-file (reply.Refused refusal.FileMissing) q h = absurd (omega (arith, h))
  reason-file (reply.Refused refusal.FileLong) q h = absurd (omega (arith, h))
  reason-file (reply.Refused refusal.Noise) q h = absurd q
  reason-file r q h = absurd h

  -- a quiet reply has the line for a file only where there is a cause
  quiet-file : (r : Reply) → IsQuietReply Cause r → reply_line r ≡ file_line → Cause
  quiet-file r q e = reason-file r q (plain_reply r file_line begins-file e)

-- ---- noise

either_short : (b : Bool) (state : State) (m : Measurement) (drawn : List ℤ) → nat_lt (length drawn) (length m.weights) ≡ b
    → reply_line ((cond {A = State × Reply} b (state, reply.Refused refusal.Noise) (m.new, reply.Values m.charged (released m.weights drawn))).1) ≡ noise_line → length drawn < length m.weights
either_short true state m drawn is e = ltb-true (length drawn) (length m.weights) is
either_short false state m drawn is e = absurd (quiet-noise (Unit {0}) (reply.Values m.charged (released m.weights drawn)) tt e)

short_stage : (state : State) (s : Stage) (drawn : List ℤ) → IsQuietStage (Unit {0}) s → reply_line ((finished state s drawn).1) ≡ noise_line → LacksNoise s drawn
short_stage state (Told new answer) drawn q e = absurd (quiet-noise (Unit {0}) answer q e)
short_stage state (Measured m) drawn q e = either_short (nat_lt (length drawn) (length m.weights)) state m drawn refl e

-- a reply is the refusal for noise only of a measurement with fewer numbers than rows
pub only_short_noise : (state : State) (line : List ℕ) (drawn : List ℤ) (fetched : Fetched) → (step state line drawn fetched).1 ≡ noise_line
    → LacksNoise (stage state line fetched) drawn
unfolding step
only_short_noise state line drawn fetched e =
    short_stage state (stage state line fetched) drawn (quiet-stage (Unit {0}) state line fetched (λ none. tt)) e

-- ---- files

only_failed : (files : Option Files) (path : List ℕ) (fetched : Fetched) → Fetches files path fetched → GaveNone fetched → fetched ≡ Failed
only_failed files path Failed h none = refl
only_failed files path Nothing h none = absurd h
only_failed files path fetched h none = absurd none

-- what a line may be given lacks a file only where the shelf failed
lacks-failed : (files : Option Files) (asked : Result Request Refusal) (fetched : Fetched) → MayFetch files asked fetched → LacksFile asked fetched → fetched ≡ Failed
lacks-failed files (Ok (request.Load name path header)) fetched h none = only_failed files path fetched h none
lacks-failed files asked fetched h none = absurd none

module _ (Cause : Type 0) where
  either_released : (b : Bool) (state : State) (m : Measurement) (drawn : List ℤ)
      → reply_line ((cond {A = State × Reply} b (state, reply.Refused refusal.Noise) (m.new, reply.Values m.charged (released m.weights drawn))).1) ≡ file_line → Cause
  either_released true state m drawn e = absurd (omega (arith, plain_reply (reply.Refused refusal.Noise) file_line begins-file e))
  either_released false state m drawn e = absurd (plain_reply (reply.Values m.charged (released m.weights drawn)) file_line begins-file e)

  file_stage : (state : State) (s : Stage) (drawn : List ℤ) → IsQuietStage Cause s → reply_line ((finished state s drawn).1) ≡ file_line → Cause
  file_stage state (Told new answer) drawn q e = quiet-file Cause answer q e
  file_stage state (Measured m) drawn q e = either_released (nat_lt (length drawn) (length m.weights)) state m drawn e

-- a reply is the refusal for a file only where the shelf failed
pub only_failed_file : (files : Option Files) (state : State) (line : List ℕ) (drawn : List ℤ) (fetched : Fetched) → MayFetch files (request_on line) fetched
    → (step state line drawn fetched).1 ≡ file_line → fetched ≡ Failed
unfolding step
only_failed_file files state line drawn fetched may e =
    file_stage (fetched ≡ Failed) state (stage state line fetched) drawn
    (quiet-stage (fetched ≡ Failed) state line fetched (lacks-failed files (request_on line) fetched may)) e
