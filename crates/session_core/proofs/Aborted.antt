-- Parts of which what is pending is dropped or made the state.
use Rattle.std.proofs.Common.{◌≡◌, List, sym, ap, ap₂, subst, ◌∙◌, map, length}
use Rattle.std.specs.Prelude.{All}
use Rattle.std.specs.Vec.{with_items}
use lib.ListN.{length-map}
use Rattle.plan_model.specs.declared.source_types.SourceType.{SourceType}
use Rattle.session_data.specs.Held.{HeldSources}
use Rattle.request_machine.specs.Named.{plan_name}
use Rattle.session_core.specs.Parts.{AreKept, AreSettled, state_of}
use Rattle.session_data.specs.Planned.{IsSettled, plan_state, plan_states}
use Rattle.request_machine.specs.Sound.{IsSoundPlan, IsSoundSource, Sound}
use Rattle.request_machine.specs.State.{PlanState, SourceState, State, family_of, types_of}
use Rattle.session_core.specs.declared.parts.Parts.{Parts}
use Rattle.session_data.specs.declared.plans.Planned.{Planned}
use Rattle.session_core.proofs.Kept.{AllHeld-settled, AllSound-held, Sound-turned}
use Rattle.session_data.proofs.PlanSteps.{items-replaced}

module _ (old : Parts) (s : HeldSources) (plans : List Planned) (kept : AreKept old) (states : plan_states plans ≡ plan_states old.plans.items) where
  abbrev after : Parts
  after = record old { sources = s; plans = with_items old.plans plans }

  abbrev held : List Planned
  held = (with_items old.plans plans).items

  -- the plans are replaced by as many
  pub items_are : held ≡ plans
  items_are = items-replaced old.plans plans (sym (length-map plans plan_state) ∙ ap length states ∙ length-map old.plans.items plan_state)

  pub states_are : plan_states held ≡ plan_states old.plans.items
  states_are = ap plan_states items_are ∙ states

  names_kept : old.plan_names.keys ≡ map plan_name (plan_states held)
  names_kept = kept.names ∙ ap (map plan_name) (sym states_are)

  -- what was pending is dropped
  pub AreSettled-dropped : s.committed ≡ old.sources.committed → s.pending ≡ old.sources.committed
      → All (IsSettled (types_of old.sources.committed) (family_of old.sources.committed)) plans → AreSettled after
  AreSettled-dropped committed pending settled =
      let there = subst (All (IsSettled (types_of old.sources.committed) (family_of old.sources.committed))) (sym items_are) settled in
      let same : state_of after ≡ state_of old = ap₂ (λ (sources : List SourceState) (ps : List PlanState). let state : State = record { curator = old.curator; sources = sources; plans = ps } in state) committed states_are in
      record {
        kept = record { sound = subst Sound (sym same) kept.sound; names = names_kept; names_room = kept.names_room; plans_room = kept.plans_room };
        plans = subst (λ (sources : List SourceState). All (IsSettled (types_of sources) (family_of sources)) held) (sym committed) there;
        none_pending = pending ∙ sym committed;
      }

  -- what was pending is the state
  pub AreSettled-turned : s.committed ≡ old.sources.pending → s.pending ≡ old.sources.pending → types_of old.sources.pending ≡ types_of old.sources.committed
      → All IsSoundSource old.sources.pending
      → All (IsSettled (types_of old.sources.committed) (family_of old.sources.pending)) plans → AreSettled after
  AreSettled-turned committed pending types sound settled =
      let there =
      subst (λ (ts : List SourceType). All (IsSettled ts (family_of old.sources.pending)) held) (sym types)
      (subst (All (IsSettled (types_of old.sources.committed) (family_of old.sources.pending))) (sym items_are) settled) in
      let sound_plans = AllSound-held old.sources.pending held (AllHeld-settled (types_of old.sources.pending) (family_of old.sources.pending) held there) in
      let before : All (IsSoundPlan old.sources.pending) (plan_states old.plans.items) = subst (All (IsSoundPlan old.sources.pending)) states_are sound_plans in
      let new : State = record (state_of old) { sources = old.sources.pending } in
      let same : state_of after ≡ new = ap₂ (λ (sources : List SourceState) (ps : List PlanState). let state : State = record { curator = old.curator; sources = sources; plans = ps } in state) committed states_are in
      record {
        kept = record {
          sound = subst Sound (sym same) (Sound-turned (state_of old) old.sources.pending kept.sound types sound before);
          names = names_kept;
          names_room = kept.names_room;
          plans_room = kept.plans_room;
        };
        plans = subst (λ (sources : List SourceState). All (IsSettled (types_of sources) (family_of sources)) held) (sym committed) there;
        none_pending = pending ∙ sym committed;
      }

  -- with other plans of the same states, the parts are kept
  pub AreKept-same : AreKept (record old { plans = with_items old.plans plans })
  AreKept-same =
      let state : State = state_of (record old { plans = with_items old.plans plans }) in
      let same : state ≡ state_of old = ap (λ (ps : List PlanState). let state : State = record { curator = old.curator; sources = old.sources.committed; plans = ps } in state) states_are in
      record { sound = subst Sound (sym same) kept.sound; names = names_kept; names_room = kept.names_room; plans_room = kept.plans_room }

  -- what holds of the plans holds of those that are replaced
  pub All-replaced : (P : Planned → Type 0) → All P plans → All P held
  All-replaced P all = subst (All P) (sym items_are) all
