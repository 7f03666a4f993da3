-- What requests come to, from what their calls say.
use Rattle.std.proofs.Common.{◌≡◌, refl, sym, ap₂, subst, ◌∙◌, Ok, Err, Result}
use Rattle.std.specs.Prelude.{IfOk, MatchResult}
use Rattle.std.specs.declared.alloc.AllocError.{AllocError}
use Rattle.messages.specs.declared.reply.Reply.{Reply}
use Rattle.request_machine.specs.State.{State}
use Rattle.session_core.specs.Outcomes.{AreReady, ComesTo, Does, state_after}
use Rattle.session_core.specs.Parts.{AreHeld, AreSettled, state_of}
use Rattle.session_core.specs.declared.outcome.Effect.{Effect}
use Rattle.session_core.specs.declared.outcome.Effect.TheVariants as effect
use Rattle.session_core.specs.declared.outcome.Outcome.{Outcome}
use Rattle.session_core.specs.declared.parts.Parts.{Parts}
use Rattle.session_core.proofs.Kept.{AllHeld-prepared, AllHeld-settled}

-- a reply that leaves the state
pub ComesTo-told : (parts : Parts) (outcome : Outcome) (answer : Reply) (target : State × Reply) → AreSettled parts
    → outcome.reply ≡ answer → outcome.effect ≡ effect.Nothing → target ≡ (state_of parts, answer) → ComesTo parts outcome target
ComesTo-told parts outcome answer target settled told nothing is = record {
  ready = subst (AreReady parts) (sym nothing) settled;
  leads = ap₂ (λ (e : Effect) (r : Reply). let o : State × Reply = (state_after parts e, r) in o) nothing told ∙ sym is;
}

-- the same of a call that keeps the parts
pub Does-told : (parts : Parts) (outcome : Outcome) (answer : Reply) (target : State × Reply) → AreSettled parts
    → outcome.reply ≡ answer → outcome.effect ≡ effect.Nothing → target ≡ (state_of parts, answer) → Does (Ok outcome) parts parts target
Does-told parts outcome answer target settled told nothing is =
    record { same = refl; done = ComesTo-told parts outcome answer target settled told nothing is }

-- a call that keeps the parts, and that comes to the target where there is memory
pub Does-kept : (result : Result Outcome AllocError) (parts : Parts) (target : State × Reply) → AreSettled parts
    → IfOk result (λ outcome. ComesTo parts outcome target) → Does result parts parts target
Does-kept (Ok outcome) parts target settled h = record { same = refl; done = h }
Does-kept (Err e) parts target settled h = record { same = refl; done = settled }

-- a call on other parts of the same state, which comes to the same
pub Does-alike : (result : Result Outcome AllocError) (old' old new : Parts) (target' target : State × Reply)
    → state_of old' ≡ state_of old → target' ≡ target → Does result old' new target' → Does result old new target
Does-alike result old' old new target' target same is h = record {
  same = h.same ∙ same;
  done = subst (λ (t : State × Reply). MatchResult result (λ outcome. ComesTo new outcome t) (λ _. AreSettled new)) is h.done;
}

AreHeld-settled : (parts : Parts) → AreSettled parts → AreHeld parts
AreHeld-settled parts h = record { kept = h.kept; plans = AllHeld-settled _ _ parts.plans.items h.plans }

-- whatever effect parts are ready for, their graphs stand for the sources
pub AreHeld-ready : (parts : Parts) (e : Effect) → AreReady parts e → AreHeld parts
AreHeld-ready parts effect.Nothing ready = AreHeld-settled parts ready
AreHeld-ready parts effect.Pending ready = record { kept = ready.kept; plans = AllHeld-prepared _ _ _ parts.plans.items ready.plans }
AreHeld-ready parts (effect.Source t budget) ready = AreHeld-settled parts ready.0
AreHeld-ready parts (effect.Plan planned) ready = AreHeld-settled parts ready.0
AreHeld-ready parts (effect.Remove at) ready = AreHeld-settled parts ready.0
AreHeld-ready parts (effect.Charge asks) ready = AreHeld-settled parts ready.0
