-- What requests come to, and the state to which that leads.
use Rattle.std.specs.Prelude.{◌≡◌, ℕ, ◌≤◌, ◌<◌, List, [], ◌∷◌, ◌++◌, length, None, Result, MatchResult}
use Rattle.std.specs.List.{remove}
use Rattle.std.specs.declared.alloc.AllocError.{AllocError}
use Rattle.budget_book.specs.Asks.{AreAsks, first_short}
use Rattle.messages.specs.declared.reply.Reply.{Reply}
use Rattle.request_machine.specs.Charges.{after_charges, book_of}
use Rattle.request_machine.specs.Limits.{max_budget, max_sources}
use Rattle.request_machine.specs.Named.{place_named, source_name}
use Rattle.request_machine.specs.State.{State, new_of_type}
use Rattle.session_data.specs.Planned.{IsSettled, plan_state, plan_states}
use Rattle.session_core.specs.Parts.{ArePrepared, AreSettled, IsNewPlan, rows_in, state_of, types_in}
use Rattle.session_core.specs.declared.outcome.Effect.{Effect}
use Rattle.session_core.specs.declared.outcome.Effect.TheVariants as effect
use Rattle.session_core.specs.declared.outcome.Outcome.{Outcome}
use Rattle.session_core.specs.declared.parts.Parts.{Parts}

-- the state once the effect is taken
abbrev pub state_after : Parts → Effect → State
state_after parts effect.Nothing = state_of parts
state_after parts effect.Pending = record (state_of parts) { sources = parts.sources.pending }
state_after parts (effect.Source t budget) =
    record (state_of parts) { sources = parts.sources.committed ++ new_of_type t budget ∷ [] }
state_after parts (effect.Plan planned) =
    record (state_of parts) { plans = plan_states parts.plans.items ++ plan_state planned ∷ [] }
state_after parts (effect.Remove at) = record (state_of parts) { plans = remove (plan_states parts.plans.items) at }
state_after parts (effect.Charge asks) =
    record (state_of parts) { sources = after_charges parts.sources.committed asks.items }

-- no source has the name, and there is room for one more
pub record IsNewSource (state : State) (name : List ℕ) : Type 0 where
  pub nowhere : place_named source_name name state.sources ≡ None
  pub few : length state.sources < max_sources

-- the effect can be taken
abbrev pub AreReady : Parts → Effect → Type 0
AreReady parts effect.Nothing = AreSettled parts
AreReady parts effect.Pending = ArePrepared parts
AreReady parts (effect.Source t budget) =
    AreSettled parts × IsNewSource (state_of parts) t.name × (budget ≤ max_budget)
AreReady parts (effect.Plan planned) =
    AreSettled parts × IsNewPlan (state_of parts) planned.name
    × IsSettled (types_in parts) (rows_in parts) planned
AreReady parts (effect.Remove at) = AreSettled parts × (at < length (state_of parts).plans)
AreReady parts (effect.Charge asks) =
    AreSettled parts × AreAsks (length parts.sources.committed) asks.items
    × (first_short (book_of parts.sources.committed) asks.items ≡ None)

-- the outcome can be taken, and leads to this state and reply
pub record ComesTo (parts : Parts) (outcome : Outcome) (target : State × Reply) : Type 0 where
  pub ready : AreReady parts outcome.effect
  pub leads : (state_after parts outcome.effect, outcome.reply) ≡ target

-- the call's outcome leads to the target, or there was no memory; until it is taken the state stays
pub record Does (result : Result Outcome AllocError) (old new : Parts) (target : State × Reply) : Type 0 where
  pub same : state_of new ≡ state_of old
  pub done : MatchResult result (λ outcome. ComesTo new outcome target) (λ _. AreSettled new)
