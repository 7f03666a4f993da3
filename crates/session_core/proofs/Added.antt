-- Weights that are added, case by case.
use Rattle.std.proofs.Common.{◌≡◌, ◌≤◌, ◌+◌, ℕ, List, refl, ap, ap₂, subst, sym, ◌∙◌, None, Some, Option, length, set, true, false, inl, inr}
use Rattle.std.specs.Prelude.{All, cond, slice_get}
use Rattle.record_text.specs.KindLists.{kinds_of}
use Rattle.datasets.specs.Dataset.{first_negative, first_weight_out_of_range}
use Rattle.weighted_set.specs.Adding.{AreChangesOfAdding, EndsAllowed, StaysInRange}
use Rattle.weighted_set.specs.Changes.{entries_of}
use Rattle.weighted_set.specs.declared.weighted.Change.{Change}
use Rattle.weighted_set.specs.declared.weighted.Weighted.{Weighted}
use Rattle.messages.specs.declared.refusal.Refusal.TheVariants as refusal
use Rattle.messages.specs.declared.reply.Reply.{Reply}
use Rattle.messages.specs.declared.reply.Reply.TheVariants as reply
use Rattle.session_data.specs.Held.{HeldSources}
use Rattle.request_machine.specs.Updates.{added_at, below_zero, first_misfit, updated_at, with_source, with_weights}
use Rattle.session_core.specs.Parts.{ArePending, AreSettled, state_of}
use Rattle.session_core.specs.Work.{outcome_steps, without_plans}
use Rattle.session_data.specs.Planned.{plan_states}
use Rattle.session_data.specs.Work.{follow_steps}
use Rattle.request_machine.specs.State.{SourceState, State, family_of, types_of}
use Rattle.session_core.specs.declared.parts.Parts.{Parts}
use Rattle.session_data.proofs.Turned.{IsTurn-added, TurnsInto-added}

-- ---- sources that are held

pub held_is : (s : HeldSources) (committed pending : List SourceState) → s.committed ≡ committed → s.pending ≡ pending → s ≡ record { committed = committed; pending = pending }
held_is s committed pending e f = ap₂ (λ (c p : List SourceState). let u : HeldSources = record { committed = c; pending = p } in u) e f

pub ArePending-added : (old : Parts) (s : HeldSources) (at : ℕ) (source : SourceState) (added : List Weighted) (changes given : List Change) → AreSettled old
    → slice_get old.sources.committed at ≡ Some source → All (λ (one : Weighted). kinds_of one.row ≡ source.kinds) added
    → AreChangesOfAdding source.rows added source.signed changes → given ≡ changes
    → s.committed ≡ old.sources.committed → s.pending ≡ set old.sources.committed at (with_weights source added)
    → ArePending (record old { sources = s }) at given
ArePending-added old s at source added changes given settled here kinds adding same committed pending =
    let turned = set old.sources.committed at (with_weights source added) in
    let there : HeldSources = record { committed = old.sources.committed; pending = turned } in
    let whole : ArePending (record old { sources = there }) at changes = record {
      kept = record { sound = settled.kept.sound; names = settled.kept.names; names_room = settled.kept.names_room; plans_room = settled.kept.plans_room };
      plans = settled.plans;
      turn = IsTurn-added old.sources.committed at source added changes here settled.kept.sound.all_sound kinds adding;
      turns = TurnsInto-added old.sources.committed at source added changes here settled.kept.sound.all_sound kinds adding;
    } in
    subst (λ (cs : List Change). ArePending (record old { sources = s }) at cs) (sym same)
    (subst (λ (u : HeldSources). ArePending (record old { sources = u }) at changes) (sym (held_is s old.sources.committed turned committed pending)) whole)

-- sources in which nothing is pending after a refusal
pub AreSettled-refused : (old : Parts) (s : HeldSources) → AreSettled old → s.committed ≡ old.sources.committed → s.pending ≡ old.sources.committed → AreSettled (record old { sources = s })
AreSettled-refused old s settled committed pending =
    let same = held_is s old.sources.committed old.sources.pending committed (pending ∙ sym settled.none_pending) in
    subst (λ (u : HeldSources). AreSettled (record old { sources = u })) (sym same) settled

pub state-refused : (old : Parts) (s : HeldSources) → s.committed ≡ old.sources.committed → state_of (record old { sources = s }) ≡ state_of old
state-refused old s committed = ap (λ (sources : List SourceState). let state : State = record (state_of old) { sources = sources } in state) committed

-- ---- outcomes

pub added_out : (state : State) (at : ℕ) (source : SourceState) (added : List Weighted) (place : ℕ) → first_weight_out_of_range source.rows (entries_of added) ≡ Some place
    → added_at state at source added ≡ (state, reply.Refused (refusal.RecordRange place))
unfolding added_at
added_out state at source added place out =
    let new = with_source state at (with_weights source added) in
    ap (λ (o : Option ℕ). updated_at o (below_zero source added) (first_misfit (types_of new.sources) (family_of new.sources) state.plans) state new (length added)) out

pub added_below : (state : State) (at : ℕ) (source : SourceState) (added : List Weighted) (place : ℕ) → StaysInRange source.rows added → source.signed ≡ false
    → first_negative source.rows (entries_of added) ≡ Some place → added_at state at source added ≡ (state, reply.Refused (refusal.Negative place))
unfolding added_at
added_below state at source added place within strict below =
    let new = with_source state at (with_weights source added) in
    let under : below_zero source added ≡ Some place = ap (λ b. cond b None (first_negative source.rows (entries_of added))) strict ∙ below in
    ap₂ (λ (o b : Option ℕ). updated_at o b (first_misfit (types_of new.sources) (family_of new.sources) state.plans) state new (length added)) within under

none_below_zero : (source : SourceState) (added : List Weighted) → EndsAllowed source.rows added source.signed → below_zero source added ≡ None
none_below_zero source added (inl free) = ap (λ b. cond b None (first_negative source.rows (entries_of added))) free
none_below_zero source added (inr none) =
    elim source.signed as (λ b. cond b None (first_negative source.rows (entries_of added)) ≡ None) [ true ↦ refl | false ↦ none ]

-- weights that can be added
pub added_allowed : (state : State) (at : ℕ) (source : SourceState) (added : List Weighted) → StaysInRange source.rows added → EndsAllowed source.rows added source.signed
    → let new : State = with_source state at (with_weights source added) in
    updated_at None None (first_misfit (types_of new.sources) (family_of new.sources) state.plans) state new (length added) ≡ added_at state at source added
unfolding added_at
added_allowed state at source added within allowed =
    let new = with_source state at (with_weights source added) in
    sym (ap₂ (λ (o b : Option ℕ). updated_at o b (first_misfit (types_of new.sources) (family_of new.sources) state.plans) state new (length added)) within (none_below_zero source added allowed))

-- the steps in which the plans follow them
pub steps_added : (old : Parts) (s : HeldSources) (at : ℕ) (source : SourceState) (added : List Weighted) (before after : ℕ)
    → StaysInRange source.rows added → EndsAllowed source.rows added source.signed
    → s.committed ≡ old.sources.committed → s.pending ≡ set old.sources.committed at (with_weights source added)
    → after ≤ before + follow_steps (plan_states old.plans.items) (types_of s.committed) (family_of s.committed) (family_of s.pending)
    → after ≤ before + outcome_steps (state_of old) (added_at (without_plans (state_of old)) at source added)
steps_added old s at source added before after within allowed committed pending h =
    let sources = old.sources.committed in
    let plans = plan_states old.plans.items in
    subst (λ (outcome : State × Reply). after ≤ before + outcome_steps (state_of old) outcome) (added_allowed (without_plans (state_of old)) at source added within allowed)
    (subst (λ (new : List SourceState). after ≤ before + follow_steps plans (types_of sources) (family_of sources) (family_of new)) pending
    (subst (λ (now : List SourceState). after ≤ before + follow_steps plans (types_of now) (family_of now) (family_of s.pending)) committed h))
