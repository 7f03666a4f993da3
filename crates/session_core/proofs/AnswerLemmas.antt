-- One line's answer, from what it comes to and how that ends.
use Rattle.std.proofs.Common.{◌≡◌, ℕ, List, [], refl, ap, ap₂, sym, subst, ◌∙◌, arith, None, Some, Ok, Err, Option, Result}
use Rattle.std.specs.Prelude.{ℤ, OnErr, OnOk}
use Rattle.std.specs.declared.alloc.AllocError.{AllocError}
use Rattle.io_edge.specs.Causes.{Rose}
use Rattle.io_edge.specs.Shelf.{Files}
use Rattle.io_edge.proofs.KnownLemmas.{Gains-none}
use Rattle.request_text.specs.Requests.{request_on}
use Rattle.reply_text.specs.Replies.{reply_line}
use Rattle.messages.specs.declared.reply.Reply.{Reply}
use Rattle.request_machine.specs.Fetches.{Nothing}
use Rattle.request_machine.specs.Machine.{answered, file_line, noise_line, stage, step}
use Rattle.request_machine.specs.Stages.{Stage, Told, told_by}
use Rattle.request_machine.specs.State.{State}
use Rattle.request_machine.proofs.DeviceRefusals.{only_failed_file, only_short_noise}
use Rattle.request_machine.proofs.Loading.{MayTake-any}
use Rattle.session_core.specs.Fetching.{FetchesAnd}
use Rattle.session_core.specs.Draws.{Responds, numbers}
use Rattle.session_core.specs.Outcomes.{Does, state_after}
use Rattle.session_core.specs.Parts.{AreSettled, state_of}
use Rattle.session_core.specs.Work.{LineWorked, TakesWithin, line_work}
use Rattle.session_core.specs.declared.outcome.Effect.TheVariants as effect
use Rattle.session_core.specs.declared.outcome.Outcome.{Outcome}
use Rattle.session_core.specs.declared.parts.Parts.{Parts}
use Rattle.session_core.proofs.ComesTo.{Does-told}

-- a call that takes no noise, of a request that wants none
pub Responds-told : (told : Option (List (ℕ × ℤ))) (faults : ℕ) (result : Result Outcome AllocError) (old new : Parts) (target : State × Reply)
    → Does result old new target → Responds told told faults faults result old new (told_by target)
Responds-told told faults (Ok outcome) old new target h =
    record { given = []; drawn = Gains-none told; may_take = refl; does = h; later = omega arith; failed = λ lacks. absurd lacks }
Responds-told told faults (Err e) old new target h =
    record { given = []; drawn = Gains-none told; may_take = refl; does = h; later = omega arith; failed = tt }

-- the same of one that comes to this answer
pub Responds-answer : (told : Option (List (ℕ × ℤ))) (faults : ℕ) (parts : Parts) (outcome : Outcome) (answer : Reply) (s : Stage) → AreSettled parts
    → outcome.reply ≡ answer → outcome.effect ≡ effect.Nothing → s ≡ Told (state_of parts) answer → Responds told told faults faults (Ok outcome) parts parts s
Responds-answer told faults parts outcome answer s settled is nothing same =
    subst (Responds told told faults faults (Ok outcome) parts parts) (sym same)
    (Responds-told told faults (Ok outcome) parts parts (state_of parts, answer) (Does-told parts outcome answer (state_of parts, answer) settled is nothing refl))

-- no steps are within every bound
pub TakesWithin-none : (work : Option ℕ) (steps : ℕ) → TakesWithin work steps steps
TakesWithin-none None steps = tt
TakesWithin-none (Some work) steps = omega arith

-- what the line comes to, as the step has it
module _ (files : Option Files) (shelf_before shelf_now : ℕ) (before after : Option (List (ℕ × ℤ))) (steps_before steps_now faults_before faults_now : ℕ) (old mid new : Parts) (line : List ℕ) where
  -- the call of this result came to what the line comes to, with what was fetched
  abbrev pub Comes : Result Outcome AllocError → Type 0
  Comes result =
      FetchesAnd files shelf_before shelf_now (request_on line)
      (λ fetched. Responds before after faults_before faults_now result old mid (answered (state_of old) (request_on line) fetched)
      × TakesWithin (line_work (state_of old) (request_on line) fetched) steps_before steps_now)

  -- no outcome, since there was no memory
  pub LineWorked-none : (e told : AllocError) → Comes (Err e) → LineWorked files shelf_before shelf_now before after steps_before steps_now (state_of old) line (Err told) [] (state_of mid)
  unfolding stage
  LineWorked-none e told h = record {
    line_answered = record {
      given = h.holds.0.given;
      fetched = h.fetched;
      drawn = h.holds.0.drawn;
      failed = h.failed;
      answer = record {
        may_take = MayTake-any (state_of old) (request_on line) h.fetched Nothing h.holds.0.given h.holds.0.may_take;
        unchanged = h.holds.0.does.same;
      };
    };
    may_fetch = h.may_fetch;
    within = h.holds.1;
  }

  module _ (outcome : Outcome) (h : Comes (Ok outcome)) (reply : List ℕ) where
    -- the outcome is taken, and its reply is written
    pub stepped_closed : state_of new ≡ state_after mid outcome.effect → reply ≡ reply_line outcome.reply
        → (state_of new, reply) ≡ step (state_of old) line (numbers h.holds.0.given) h.fetched
    unfolding step stage
    stepped_closed state told =
        ap₂ (λ (s : State) (r : List ℕ). let both : State × List ℕ = (s, r) in both) state told
        ∙ ap (λ (o : State × Reply). let both : State × List ℕ = (o.0, reply_line o.1) in both) h.holds.0.does.done.leads

    pub LineWorked-closed : (result : Result (Unit {0}) AllocError) → OnOk result (state_of new ≡ state_after mid outcome.effect) → OnOk result (reply ≡ reply_line outcome.reply)
        → OnErr result (state_of new ≡ state_of mid) → LineWorked files shelf_before shelf_now before after steps_before steps_now (state_of old) line result reply (state_of new)
    unfolding stage
    LineWorked-closed (Ok done) state told same = record {
      line_answered = record {
        given = h.holds.0.given;
        fetched = h.fetched;
        drawn = h.holds.0.drawn;
        failed = h.failed;
        answer = record { may_fetch = h.may_fetch; may_take = h.holds.0.may_take; stepped = stepped_closed state told };
      };
      may_fetch = h.may_fetch;
      within = h.holds.1;
    }
    LineWorked-closed (Err e) state told same = record {
      line_answered = record {
        given = h.holds.0.given;
        fetched = h.fetched;
        drawn = h.holds.0.drawn;
        failed = h.failed;
        answer = record {
          may_take = MayTake-any (state_of old) (request_on line) h.fetched Nothing h.holds.0.given h.holds.0.may_take;
          unchanged = same ∙ h.holds.0.does.same;
        };
      };
      may_fetch = h.may_fetch;
      within = h.holds.1;
    }

    -- a refusal for noise comes only where the noise failed
    pub noise_closed : (result : Result (Unit {0}) AllocError) → OnOk result (state_of new ≡ state_after mid outcome.effect) → OnOk result (reply ≡ reply_line outcome.reply)
        → OnOk result (reply ≡ noise_line → Rose faults_before faults_now)
    unfolding stage
    noise_closed (Ok done) state told =
        λ is. h.holds.0.failed (only_short_noise (state_of old) line (numbers h.holds.0.given) h.fetched (sym (ap (λ (both : State × List ℕ). both.1) (stepped_closed state told)) ∙ is))
    noise_closed (Err e) state told = tt

    -- and one for a file only where the shelf failed
    pub file_closed : (result : Result (Unit {0}) AllocError) → OnOk result (state_of new ≡ state_after mid outcome.effect) → OnOk result (reply ≡ reply_line outcome.reply)
        → OnOk result (reply ≡ file_line → Rose shelf_before shelf_now)
    file_closed (Ok done) state told =
        λ is. h.failed (only_failed_file files (state_of old) line (numbers h.holds.0.given) h.fetched h.may_fetch (sym (ap (λ (both : State × List ℕ). both.1) (stepped_closed state told)) ∙ is))
    file_closed (Err e) state told = tt
