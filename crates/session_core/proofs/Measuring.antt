-- What a measurement comes to, by what was drawn for it.
use Rattle.std.proofs.Common.{◌≡◌, ◌<◌, ℕ, List, [], refl, sym, ap, ap₂, ◌∙◌, arith, length, cond, nat_lt, false, Bool, Option, None, Some, Ok, Err, lt-ltb, rules}
use Rattle.std.specs.Prelude.{ℤ}
use Rattle.std.specs.declared.alloc.AllocError.{AllocError}
use lib.ListN.{length-map}
use Rattle.io_edge.proofs.KnownLemmas.{Gains-none}
use Rattle.messages.specs.declared.refusal.Refusal.TheVariants as refusal
use Rattle.messages.specs.declared.reply.Reply.{Reply}
use Rattle.messages.specs.declared.reply.Reply.TheVariants as reply
use Rattle.request_machine.specs.Stages.{MayTake, Measured, Measurement, Stage, Told, finished, released}
use Rattle.request_machine.specs.State.{State}
use Rattle.session_core.specs.Draws.{Draws, Responds, numbers}
use Rattle.session_core.specs.Outcomes.{AreReady, state_after}
use Rattle.session_core.specs.Parts.{AreSettled, state_of}
use Rattle.session_core.specs.declared.outcome.Effect.TheVariants as effect
use Rattle.session_core.specs.declared.outcome.Outcome.{Outcome}
use Rattle.session_core.specs.declared.parts.Parts.{Parts}
use Rattle.session_core.proofs.ComesTo.{ComesTo-told}
use Rattle.std.proofs.lemmas.List.Elements.{All-nil}

-- whatever a line comes to, it may take no noise
MayTake-none : (s : Stage) → MayTake s []
MayTake-none (Told new answer) = refl
MayTake-none (Measured m) = (omega arith, All-nil (λ (pair : ℕ × ℤ). pair.0 ≡ m.epsilon))

-- no memory before anything was drawn
pub Responds-none : (told : Option (List (ℕ × ℤ))) (faults : ℕ) (e : AllocError) (parts : Parts) (s : Stage) → AreSettled parts
    → Responds told told faults faults (Err e) parts parts s
Responds-none told faults e parts s settled = record {
  given = [];
  drawn = Gains-none told;
  may_take = MayTake-none s;
  does = record { same = refl; done = settled };
  later = omega arith;
  failed = tt;
}

not_fewer : (n m : ℕ) → n ≡ m → nat_lt n m ≡ false
not_fewer n m same = grind (arith, rules)

module _ (state : State) (m : Measurement) (drawn : List ℤ) where
  -- fewer numbers than rows
  finished_short : length drawn < length m.weights → finished state (Measured m) drawn ≡ (state, reply.Refused refusal.Noise)
  finished_short few =
      ap (λ (b : Bool). let one : State × Reply = cond b (state, reply.Refused refusal.Noise) (m.new, reply.Values m.charged (released m.weights drawn)) in one)
      (lt-ltb (length drawn) (length m.weights) few)

  -- as many
  finished_whole : length drawn ≡ length m.weights → finished state (Measured m) drawn ≡ (m.new, reply.Values m.charged (released m.weights drawn))
  finished_whole same =
      ap (λ (b : Bool). let one : State × Reply = cond b (state, reply.Refused refusal.Noise) (m.new, reply.Values m.charged (released m.weights drawn)) in one)
      (not_fewer (length drawn) (length m.weights) same)

length-numbers : (given : List (ℕ × ℤ)) → length (numbers given) ≡ length given
length-numbers given = length-map given (λ (pair : ℕ × ℤ). pair.1)

module _ (before now : Option (List (ℕ × ℤ))) (faults_before faults_now : ℕ) (parts : Parts) (m : Measurement) (settled : AreSettled parts) where
  -- no memory while numbers were drawn
  pub Responds-stopped : (e : AllocError) → Draws before now faults_before faults_now m.epsilon m.weights (Err e)
      → Responds before now faults_before faults_now (Err e) parts parts (Measured m)
  Responds-stopped e d = record {
    given = d.given;
    drawn = d.drawn;
    may_take = (d.releases, d.each);
    does = record { same = refl; done = settled };
    later = d.later;
    failed = tt;
  }

  -- the noise failed
  pub Responds-noise : (outcome : Outcome) → Draws before now faults_before faults_now m.epsilon m.weights (Ok None)
      → outcome.reply ≡ reply.Refused refusal.Noise → outcome.effect ≡ effect.Nothing
      → Responds before now faults_before faults_now (Ok outcome) parts parts (Measured m)
  Responds-noise outcome d told nothing =
      let few : length (numbers d.given) < length m.weights = omega (arith, d.releases, length-numbers d.given) in
      record {
        given = d.given;
        drawn = d.drawn;
        may_take = (omega (arith, d.releases), d.each);
        does = record {
          same = refl;
          done = ComesTo-told parts outcome (reply.Refused refusal.Noise) (finished (state_of parts) (Measured m) (numbers d.given)) settled told nothing
              (finished_short (state_of parts) m (numbers d.given) few);
        };
        later = d.later;
        failed = λ lacks. d.failed refl;
      }

  -- a number for each row
  pub Responds-values : (outcome : Outcome) (values : List ℤ) → Draws before now faults_before faults_now m.epsilon m.weights (Ok (Some values))
      → AreReady parts outcome.effect → state_after parts outcome.effect ≡ m.new → outcome.reply ≡ reply.Values m.charged values
      → Responds before now faults_before faults_now (Ok outcome) parts parts (Measured m)
  Responds-values outcome values d ready new told =
      let same : length (numbers d.given) ≡ length m.weights = length-numbers d.given ∙ d.releases.0 in
      record {
        given = d.given;
        drawn = d.drawn;
        may_take = (omega (arith, d.releases.0), d.each);
        does = record {
          same = refl;
          done = record {
            ready = ready;
            leads =
                ap₂ (λ (s : State) (r : Reply). let one : State × Reply = (s, r) in one) new (told ∙ ap (reply.Values m.charged) d.releases.1)
                ∙ sym (finished_whole (state_of parts) m (numbers d.given) same);
          };
        };
        later = d.later;
        failed = λ lacks. absurd (omega (arith, same, lacks));
      }
