-- Parts with one plan less.
use Rattle.std.proofs.Common.{◌≡◌, ◌<◌, ◌≤◌, ◌+◌, ◌++◌, ℕ, suc, List, Bool, false, sym, ap, ap₂, subst, ◌∙◌, arith, length, map, take, drop, vec_len, vec_capacity}
use Rattle.std.specs.Prelude.{All}
use Rattle.std.specs.List.{IsDistinct, remove}
use Rattle.std.proofs.lemmas.List.{drop-map, map-append, take-map}
use Rattle.std.proofs.lemmas.List.Edits.{length-remove}
use Rattle.std.proofs.lemmas.List.Elements.{All-append, All-drop, All-take}
use Rattle.std.proofs.lemmas.List.Quantifiers.{all_pairs_remove}
use Rattle.std.proofs.lemmas.Map.Keys.{IsDistinct-from_apart, apart_from_distinct}
use lib.ListN.{length-map}
use Rattle.indexmap.specs.IndexSet.{spare}
use Rattle.record_text.specs.Names.{name_eq}
use Rattle.session_data.specs.Held.{HeldSources}
use Rattle.request_machine.specs.Named.{plan_name}
use Rattle.session_core.specs.Parts.{AreSettled, state_of}
use Rattle.session_data.specs.Planned.{IsSettled, plan_state, plan_states}
use Rattle.request_machine.specs.Sound.{IsSoundPlan, Sound}
use Rattle.request_machine.specs.State.{State, family_of, types_of}
use Rattle.session_core.specs.declared.parts.Parts.{Parts}

-- ---- lists with one element less

All-remove : {X : Type 0} (P : X → Type 0) (xs : List X) (i : ℕ) → All P xs → All P (remove xs i)
All-remove P xs i all = All-append P (take i xs) (drop (suc i) xs) (All-take P i xs all) (All-drop P (suc i) xs all)

map-remove : {X Y : Type 0} (f : X → Y) (xs : List X) (i : ℕ) → map f (remove xs i) ≡ remove (map f xs) i
map-remove f xs i = map-append f (take i xs) (drop (suc i) xs) ∙ ap₂ (λ front back. front ++ back) (sym (take-map f i xs)) (sym (drop-map f (suc i) xs))

IsDistinct-remove : {K : Type 0} (e : K → K → Bool) (ks : List K) (i : ℕ) → i < length ks → IsDistinct e ks → IsDistinct e (remove ks i)
IsDistinct-remove e ks i lt distinct =
    IsDistinct-from_apart e (remove ks i) (all_pairs_remove (λ x y. e x y ≡ false) ks i lt (λ a b d. apart_from_distinct e ks a b d distinct))

-- ---- states

-- a sound state without the plan at a place is sound
Sound-dropped : (state : State) (i : ℕ) → i < length state.plans → Sound state → Sound (record state { plans = remove state.plans i })
Sound-dropped state i lt sound =
    let named = subst (λ n. i < n) (sym (length-map state.plans plan_name)) lt in
    record {
      few = sound.few;
      few_plans = omega (arith, length-remove state.plans i lt, sound.few_plans);
      distinct = sound.distinct;
      distinct_plans = subst (IsDistinct name_eq) (sym (map-remove plan_name state.plans i)) (IsDistinct-remove name_eq (map plan_name state.plans) i named sound.distinct_plans);
      all_sound = sound.all_sound;
      all_plans = All-remove (IsSoundPlan state.sources) state.plans i sound.all_plans;
    }

-- ---- parts

module _ (old new : Parts) (settled : AreSettled old) (open_ : new.curator ≡ old.curator) (sources : new.sources ≡ old.sources)
    (i : ℕ) (items : new.plans.items ≡ remove old.plans.items i) where
  states_are : plan_states new.plans.items ≡ remove (plan_states old.plans.items) i
  states_are = ap plan_states items ∙ map-remove plan_state old.plans.items i

  -- the state has one plan less
  pub state_is : state_of new ≡ record (state_of old) { plans = remove (plan_states old.plans.items) i }
  state_is = λ j. let state : State = record { curator = open_ j; sources = (sources j).committed; plans = states_are j } in state

  -- and is settled, where the name is gone too
  pub AreSettled-dropped : i < length old.plans.items → new.plan_names.keys ≡ remove old.plan_names.keys i → 32 ≤ spare new.plan_names + vec_len new.plans → 32 ≤ vec_capacity new.plans
      → AreSettled new
  AreSettled-dropped lt names names_room plans_room =
      let within = subst (λ n. i < n) (sym (length-map old.plans.items plan_state)) lt in
      record {
        kept = record {
          sound = subst Sound (sym state_is) (Sound-dropped (state_of old) i within settled.kept.sound);
          names =
              names ∙ ap (λ ks. remove ks i) settled.kept.names ∙ sym (map-remove plan_name (plan_states old.plans.items) i)
              ∙ ap (map plan_name) (sym states_are);
          names_room = names_room;
          plans_room = plans_room;
        };
        plans =
            subst (λ (s : HeldSources). All (IsSettled (types_of s.committed) (family_of s.committed)) new.plans.items) (sym sources)
            (subst (All (IsSettled (types_of old.sources.committed) (family_of old.sources.committed))) (sym items)
            (All-remove (IsSettled (types_of old.sources.committed) (family_of old.sources.committed)) old.plans.items i settled.plans));
        none_pending = subst (λ (s : HeldSources). s.pending ≡ s.committed) (sym sources) settled.none_pending;
      }
