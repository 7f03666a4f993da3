-- Parts with one plan more, and the sources that a plan uses.
use Rattle.std.proofs.Common.{◌≡◌, ◌<◌, ◌≤◌, ◌+◌, ℕ, List, [], ◌∷◌, ◌++◌, Bool, false, sym, ap, ap₂, subst, ◌∙◌, arith, cond, length, map, nat_lt, take, None, Option, Some, if◌then◌else◌, append-nil, length-append, lt-ltb, rules, vec_capacity, vec_len}
use Rattle.std.specs.Prelude.{All, slice_get}
use Rattle.std.specs.List.{IsDistinct, list_any, range_with_len}
use Rattle.std.specs.Cmp.Lexicographic.{lists_equiv}
use Rattle.std.proofs.lemmas.Cmp.{nat_eq_equiv}
use Rattle.std.proofs.lemmas.List.{length-take-le, map-append, take_all, take_more}
use Rattle.std.proofs.lemmas.Option.{get_or_from_slice_get, slice_get_within}
use Rattle.std.proofs.lemmas.List.FromFn.{length-range_with_len}
use Rattle.std.proofs.lemmas.List.Elements.{All-push}
use Rattle.std.proofs.lemmas.Map.Keys.{IsDistinct-push}
use lib.ListN.{length-map}
use Rattle.indexmap.specs.IndexSet.{insert_key, spare}
use Rattle.record_text.specs.Names.{name_eq}
use Rattle.record_text.specs.declared.kinds.Kind.{Kind}
use Rattle.plan_checker.specs.Checked.{CheckedPlan, IsChecked}
use Rattle.plan_model.specs.Acceptance.{Accepts, Fault, plan_fault_of}
use Rattle.plan_model.specs.Uses.{uses}
use Rattle.plan_model.specs.declared.step.Step.{Step}
use Rattle.messages.specs.declared.refusal.Refusal.TheVariants as refusal
use Rattle.messages.specs.declared.reply.Reply.TheVariants as reply
use Rattle.session_data.specs.Held.{HeldSources}
use Rattle.request_machine.specs.Charges.{ask_of, asks_from, by_name}
use Rattle.request_machine.specs.Declarations.{misfit_on, planned, planned_at, planned_reply}
use Rattle.request_machine.specs.Named.{plan_name}
use Rattle.session_core.specs.Parts.{AreSettled, IsNewPlan, state_of}
use Rattle.session_data.specs.Planned.{IsSettled, plan_state, plan_states}
use Rattle.request_machine.specs.Sound.{Sound}
use Rattle.session_data.proofs.UsedLemmas.{asks_from-more}
use Rattle.request_machine.specs.State.{PlanState, SourceState, State, family_of, type_of, types_of}
use Rattle.session_core.specs.declared.parts.Parts.{Parts}
use Rattle.session_data.specs.declared.plans.Planned.{Planned}
use Rattle.session_core.proofs.Kept.{AllHeld-settled, AllSound-held}
use Rattle.request_machine.proofs.Named.{name_is_new}
use Rattle.request_machine.proofs.Outcomes.{planned_new}

-- ---- the sources that a plan uses

next_count : (counts : List ℕ) (at n : ℕ) → slice_get counts at ≡ Some n
    → asks_from 0 (take (at + 1) counts) ≡ asks_from 0 (take at counts) ++ cond (nat_lt 0 n) (ask_of at n ∷ []) []
next_count counts at n here =
    let lt = slice_get_within counts at n here in
    let is = get_or_from_slice_get counts at n n here in
    let size = length-take-le at counts (omega (arith, lt)) in
    let place : 0 + length (take at counts) ≡ at = omega (arith, size) in
    ap (asks_from 0) (take_more counts at n lt ∙ ap (λ k. take at counts ++ k ∷ []) is)
    ∙ asks_from-more 0 (take at counts) n
    ∙ ap (λ source. asks_from 0 (take at counts) ++ cond (nat_lt 0 n) (ask_of source n ∷ []) []) place

not_below : (n : ℕ) → n ≤ 0 → nat_lt 0 n ≡ false
not_below n none = grind (arith, rules)

pub used-counted : (counts : List ℕ) (at n : ℕ) → slice_get counts at ≡ Some n → 0 < n
    → asks_from 0 (take (at + 1) counts) ≡ asks_from 0 (take at counts) ++ ask_of at n ∷ []
used-counted counts at n here some =
    next_count counts at n here
    ∙ ap (λ (b : Bool). asks_from 0 (take at counts) ++ cond b (ask_of at n ∷ []) []) (lt-ltb 0 n some)

pub used-unused : (counts : List ℕ) (at n : ℕ) → slice_get counts at ≡ Some n → n ≤ 0 → asks_from 0 (take (at + 1) counts) ≡ asks_from 0 (take at counts)
used-unused counts at n here none =
    next_count counts at n here
    ∙ ap (λ (b : Bool). asks_from 0 (take at counts) ++ cond b (ask_of at n ∷ []) []) (not_below n none)
    ∙ append-nil (asks_from 0 (take at counts))

-- all sources
pub used-all : (counts : List ℕ) (at : ℕ) → length counts ≤ at → asks_from 0 (take at counts) ≡ asks_from 0 counts
used-all counts at end = ap (asks_from 0) (take_all at counts end)

-- ---- plans that are declared

-- the first fault of a new plan is told
pub planned_faulty : (state : State) (new : PlanState) (fault : Fault) → IsNewPlan state new.name → plan_fault_of new.plan (types_of state.sources) ≡ Some fault
    → planned state new ≡ (state, reply.Refused (refusal.Plan fault.step fault.what))
planned_faulty state new fault fresh faulty =
    planned_new state new fresh.nowhere fresh.few ∙ ap (λ (o : Option Fault). planned_at o (misfit_on state.sources new.plan) state new) faulty

-- the first step of an accepted plan that doesn't fit the sources is told
pub planned_unfit : (state : State) (new : PlanState) (step : ℕ) → IsNewPlan state new.name → Accepts new.plan (types_of state.sources) → misfit_on state.sources new.plan ≡ Some step
    → planned state new ≡ (state, reply.Refused (refusal.Range new.name step))
planned_unfit state new step fresh accepted unfit =
    planned_new state new fresh.nowhere fresh.few ∙ ap₂ (λ (o : Option Fault) (out : Option ℕ). planned_at o out state new) accepted unfit

-- an accepted plan that fits the sources goes last
pub planned_fit : (state : State) (new : PlanState) → IsNewPlan state new.name → Accepts new.plan (types_of state.sources) → misfit_on state.sources new.plan ≡ None
    → planned state new ≡ (record state { plans = state.plans ++ new ∷ [] }, planned_reply state.sources new.plan)
planned_fit state new fresh accepted fits =
    planned_new state new fresh.nowhere fresh.few ∙ ap₂ (λ (o : Option Fault) (out : Option ℕ). planned_at o out state new) accepted fits

-- a checked plan has a count for each source
pub length-checked : (sources : List SourceState) (plan : List Step) (checked : CheckedPlan) → IsChecked plan (types_of sources) checked → length checked.uses ≡ length sources
length-checked sources plan checked h =
    ap (λ (c : CheckedPlan). length c.uses) h.1 ∙ length-map (range_with_len 0 (length (types_of sources))) (uses plan (types_of sources))
    ∙ length-range_with_len 0 (length (types_of sources)) ∙ length-map sources type_of

-- what is told of a checked plan
pub planned_told : (state : State) (plan : List Step) (checked : CheckedPlan) (cols : List Kind) (used : List (List ℕ × ℕ)) → IsChecked plan (types_of state.sources) checked
    → cols ≡ checked.columns → used ≡ by_name state.sources (asks_from 0 checked.uses)
    → reply.Planned cols used ≡ planned_reply state.sources plan
planned_told state plan checked cols used h cols_are used_are =
    ap₂ reply.Planned (cols_are ∙ ap (λ (c : CheckedPlan). c.columns) h.1) (used_are ∙ ap (λ (c : CheckedPlan). by_name state.sources (asks_from 0 c.uses)) h.1)

-- a plan goes last, with its name
pub record Grown (old new : Parts) (added : Planned) : Type 0 where
  pub curator : new.curator ≡ old.curator
  pub sources : new.sources ≡ old.sources
  pub plans : new.plans.items ≡ old.plans.items ++ added ∷ []
  pub names : new.plan_names.keys ≡ insert_key name_eq old.plan_names.keys added.name
  pub names_room : 32 ≤ spare new.plan_names + vec_len new.plans
  pub plans_room : 32 ≤ vec_capacity new.plans

module _ (old new : Parts) (added : Planned) (grown : Grown old new added) (settled : AreSettled old) (fresh : IsNewPlan (state_of old) added.name)
    (holds : IsSettled (types_of old.sources.committed) (family_of old.sources.committed) added) where
  abbrev plans_after : List Planned
  plans_after = old.plans.items ++ added ∷ []

  states_are : plan_states plans_after ≡ plan_states old.plans.items ++ plan_state added ∷ []
  states_are = map-append plan_state old.plans.items (added ∷ [])

  -- the state has the plan last
  pub state_grown : state_of new ≡ record (state_of old) { plans = plan_states old.plans.items ++ plan_state added ∷ [] }
  state_grown =
      ap₂ (λ (curator : Bool) (plans : List PlanState). let state : State = record { curator = curator; sources = new.sources.committed; plans = plans } in state)
      grown.curator (ap plan_states grown.plans ∙ states_are)
      ∙ ap (λ (sources : HeldSources). let state : State = record { curator = old.curator; sources = sources.committed; plans = plan_states old.plans.items ++ plan_state added ∷ [] } in state) grown.sources

  names_before : old.plan_names.keys ≡ map plan_name (plan_states old.plans.items)
  names_before = settled.kept.names

  names_after : map plan_name (plan_states plans_after) ≡ map plan_name (plan_states old.plans.items) ++ added.name ∷ []
  names_after = ap (map plan_name) states_are ∙ map-append plan_name (plan_states old.plans.items) (plan_state added ∷ [])

  is_new : list_any (name_eq added.name) (map plan_name (plan_states old.plans.items)) ≡ false
  is_new = name_is_new plan_name added.name (plan_states old.plans.items) fresh.nowhere

  names_grown : new.plan_names.keys ≡ map plan_name (plan_states plans_after)
  names_grown =
      let names = map plan_name (plan_states old.plans.items) in
      grown.names ∙ ap (λ (keys : List (List ℕ)). insert_key name_eq keys added.name) names_before
      ∙ ap (λ (taken : Bool). if taken then names else names ++ added.name ∷ []) is_new ∙ sym names_after

  distinct : IsDistinct name_eq (map plan_name (plan_states plans_after))
  distinct =
      subst (IsDistinct name_eq) (sym names_after)
      (IsDistinct-push (lists_equiv nat_eq_equiv) (map plan_name (plan_states old.plans.items)) added.name settled.kept.sound.distinct_plans is_new)

  plans_hold : All (IsSettled (types_of old.sources.committed) (family_of old.sources.committed)) plans_after
  plans_hold = All-push (IsSettled (types_of old.sources.committed) (family_of old.sources.committed)) old.plans.items added settled.plans holds

  sound_before : Sound (record (state_of old) { plans = plan_states plans_after })
  sound_before = record {
    few = settled.kept.sound.few;
    few_plans = omega (arith, ap length states_are, length-append (plan_states old.plans.items) (plan_state added ∷ []), fresh.few);
    distinct = settled.kept.sound.distinct;
    distinct_plans = distinct;
    all_sound = settled.kept.sound.all_sound;
    all_plans = AllSound-held old.sources.committed plans_after (AllHeld-settled _ _ plans_after plans_hold);
  }

  -- the parts with the plan are settled
  pub AreSettled-grown : AreSettled new
  AreSettled-grown = record {
    kept = record {
      sound = subst Sound (ap (λ (plans : List PlanState). let state : State = record (state_of old) { plans = plans } in state) states_are ∙ sym state_grown) sound_before;
      names = names_grown ∙ ap (λ (plans : List Planned). map plan_name (plan_states plans)) (sym grown.plans);
      names_room = grown.names_room;
      plans_room = grown.plans_room;
    };
    plans =
        subst (λ (sources : HeldSources). All (IsSettled (types_of sources.committed) (family_of sources.committed)) new.plans.items) (sym grown.sources)
        (subst (All (IsSettled (types_of old.sources.committed) (family_of old.sources.committed))) (sym grown.plans) plans_hold);
    none_pending = subst (λ (sources : HeldSources). sources.pending ≡ sources.committed) (sym grown.sources) settled.none_pending;
  }
