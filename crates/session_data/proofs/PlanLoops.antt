-- Loops over plans that are kept up to date.
use Rattle.std.proofs.Common.{◌≡◌, ◌≢◌, ◌<◌, ◌≤◌, ℕ, zero, suc, ◌+◌, List, [], ◌∷◌, true, false, refl, sym, ap, subst, ◌∙◌, arith, drop, length, get_or, get_or-set_other, set, nat_lt, Some, None}
use Rattle.std.proofs.lemmas.List.Elements.{All-from_all_within, All-set, AllWithin-more_set}
use Rattle.std.proofs.lemmas.List.Sums.{sum_by-drop_more}
use Rattle.std.proofs.lemmas.Bool.{ltb-true, ltb-false}
use lib.Seq.{map-set_same}
use lib.ListN.{get_or-map, length-map, length-set}
use Rattle.std.specs.Prelude.{All}
use Rattle.std.specs.List.{AllWithin}
use Rattle.plan_model.specs.Evaluation.{Family}
use Rattle.plan_model.specs.Fits.{misfit}
use Rattle.plan_model.specs.declared.source_types.SourceType.{SourceType}
use Rattle.messages.specs.declared.refusal.Refusal.TheVariants as refusal
use Rattle.weighted_set.specs.declared.weighted.Change.{Change}
use Rattle.request_machine.specs.Updates.{first_misfit, range_or}
use Rattle.session_data.specs.Planned.{Holds, IsPrepared, IsSettled, MayTurnAll, plan_state, plan_states}
use Rattle.request_machine.specs.State.{PlanState}
use Rattle.flow_graph.specs.Work.{most_ticks}
use Rattle.session_data.specs.Work.{PlanWithin, follow_steps}
use Rattle.session_data.specs.declared.plans.Planned.{Planned}

-- one plan that doesn't fit, where all before it do
pub first_misfit-at : (types : List SourceType) (G : Family) (plans : List Planned) (i : ℕ) (d : Planned) (step : ℕ) → i < length plans
    → ((k : ℕ) → k < i → misfit (get_or plans k d).plan types G ≡ None) → misfit (get_or plans i d).plan types G ≡ Some step
    → first_misfit types G (plan_states plans) ≡ Some (refusal.Range (get_or plans i d).name step)
first_misfit-at types G [] i d step lt fit unfit = absurd (omega (arith, lt))
first_misfit-at types G (plan ∷ plans) zero d step lt fit unfit = ap (λ o. range_or plan.name o (first_misfit types G (plan_states plans))) unfit
first_misfit-at types G (plan ∷ plans) (suc i) d step lt fit unfit =
    ap (λ o. range_or plan.name o (first_misfit types G (plan_states plans))) (fit zero (omega arith))
    ∙ first_misfit-at types G plans i d step (omega (arith, lt)) (λ k below. fit (suc k) (omega (arith, below))) unfit

-- all plans fit
pub first_misfit-none : (types : List SourceType) (G : Family) (plans : List Planned) → ((k : ℕ) (d : Planned) → k < length plans → misfit (get_or plans k d).plan types G ≡ None)
    → first_misfit types G (plan_states plans) ≡ None
first_misfit-none types G [] fit = refl
first_misfit-none types G (plan ∷ plans) fit =
    ap (λ o. range_or plan.name o (first_misfit types G (plan_states plans))) (fit zero plan (omega arith))
    ∙ first_misfit-none types G plans (λ k d below. fit (suc k) d (omega (arith, below)))

-- the steps for the plans from a place on: those for the plan there, and those for the rest
follow_steps-drop : (types : List SourceType) (F G : Family) (old new : List Planned) (at : ℕ) (d : Planned) → plan_states new ≡ plan_states old → at < length new
    → follow_steps (drop at (plan_states old)) types F G ≡ most_ticks (get_or new at d).plan types F G + follow_steps (drop (at + 1) (plan_states old)) types F G
follow_steps-drop types F G old new at d states lt =
    let here : at < length (plan_states old) = subst (λ (ps : List PlanState). at < length ps) states (omega (arith, lt, length-map new plan_state)) in
    sum_by-drop_more (λ (p : PlanState). most_ticks p.plan types F G) (plan_states old) at (plan_state d) here
    ∙ ap (λ (p : PlanState). most_ticks p.plan types F G + follow_steps (drop (at + 1) (plan_states old)) types F G)
    (ap (λ (ps : List PlanState). get_or ps at (plan_state d)) (sym states) ∙ get_or-map plan_state new at d)

-- the changes are pending in the plans before a place, and nothing is in those from there on
pub record PreparedBefore (source : ℕ) (changes : List Change) (old new : List Planned) (at : ℕ) : Type 0 where
  pub states : plan_states new ≡ plan_states old
  pub within : length new ≡ length old
  pub before : (types : List SourceType) (F G : Family) → MayTurnAll old types source changes F G → AllWithin (IsPrepared types F G) new 0 at
  pub after : (types : List SourceType) (F G : Family) → MayTurnAll old types source changes F G → AllWithin (IsSettled types F) new at (length new)

after-set : {X : Type 0} (P : X → Type 0) (xs : List X) (i : ℕ) (x : X) → AllWithin P xs i (length xs) → AllWithin P (set xs i x) (i + 1) (length (set xs i x))
after-set P xs i x all k d low high =
    let ne : k ≢ i = omega (arith, low) in
    rw get_or-set_other (all k d (omega (arith, low)) (subst (λ n. k < n) (length-set xs i x) high))

module _ (source : ℕ) (changes : List Change) (old new : List Planned) (at : ℕ) (h : PreparedBefore source changes old new at) where
  -- one plan more is prepared
  pub PreparedBefore-more : (planned : Planned) → at < length new → plan_state planned ≡ plan_state (get_or new at planned)
      → ((types : List SourceType) (F G : Family) → MayTurnAll old types source changes F G → IsPrepared types F G planned)
      → PreparedBefore source changes old (set new at planned) (at + 1)
  PreparedBefore-more planned lt same prepared = record {
    states = map-set_same plan_state new at planned planned same ∙ h.states;
    within = length-set new at planned ∙ h.within;
    before = λ types F G m. AllWithin-more_set new at planned lt (IsPrepared types F G) (h.before types F G m) (prepared types F G m);
    after = λ types F G m. after-set (IsSettled types F) new at planned (h.after types F G m);
  }

  -- the steps that the plans from the place on may take, one plan further
  pub steps_more : (types : List SourceType) (F G : Family) → MayTurnAll old types source changes F G → (d : Planned) (start before after : ℕ) → at < length new
      → before + follow_steps (drop at (plan_states old)) types F G ≤ start + follow_steps (plan_states old) types F G
      → PlanWithin (get_or new at d) source changes before after
      → after + follow_steps (drop (at + 1) (plan_states old)) types F G ≤ start + follow_steps (plan_states old) types F G
  steps_more types F G m d start before after lt so_far one =
      let here = one types F G (h.after types F G m at d (omega arith) lt) m.turns in
      let split = follow_steps-drop types F G old new at d h.states lt in
      omega (arith, here, split, so_far)

  -- all plans are prepared
  pub all_prepared : length new ≤ at → (types : List SourceType) (F G : Family) → MayTurnAll old types source changes F G → All (IsPrepared types F G) new
  all_prepared end types F G m = All-from_all_within (IsPrepared types F G) new (λ k d low high. h.before types F G m k d low (omega (arith, end, high)))

  -- each plan's graph still stands for the family
  pub all_hold : (types : List SourceType) (F G : Family) → MayTurnAll old types source changes F G → All (Holds types F) new
  all_hold types F G m k d lt =
      elim (nat_lt k at) as (λ b. nat_lt k at ≡ b → Holds types F (get_or new k d)) [
        | true ↦ λ below. (h.before types F G m k d (omega arith) (ltb-true k at below)).holds
        | false ↦ λ past. (h.after types F G m k d (ltb-false k at past) lt).holds
      ] refl

  -- so do they where the plan at the place keeps its own
  pub all_hold-but : (planned : Planned) → ((types : List SourceType) (F G : Family) → MayTurnAll old types source changes F G → Holds types F planned)
      → (types : List SourceType) (F G : Family) → MayTurnAll old types source changes F G → All (Holds types F) (set new at planned)
  all_hold-but planned held types F G m = All-set (Holds types F) new at planned (held types F G m) (all_hold types F G m)

  -- the plan at the place is the first that doesn't fit
  pub is_first_misfit : (step : ℕ) → at < length new
      → ((types : List SourceType) (F G : Family) → MayTurnAll old types source changes F G → (d : Planned) → misfit (get_or new at d).plan types G ≡ Some step)
      → (types : List SourceType) (F G : Family) → MayTurnAll old types source changes F G → (d : Planned)
      → first_misfit types G (plan_states new) ≡ Some (refusal.Range (get_or new at d).name step)
  is_first_misfit step lt unfit types F G m d =
      first_misfit-at types G new at d step lt (λ k below. (h.before types F G m k d (omega arith) below).fits) (unfit types F G m d)

-- the plans before a place are of `Done`, and those from there on of `Open`
pub record TurnedBefore (Open Done : List SourceType → Family → Family → Planned → Type 0) (old new : List Planned) (at : ℕ) : Type 0 where
  pub states : plan_states new ≡ plan_states old
  pub before : (types : List SourceType) (F G : Family) → All (Open types F G) old → AllWithin (Done types F G) new 0 at
  pub after : (types : List SourceType) (F G : Family) → All (Open types F G) old → AllWithin (Open types F G) new at (length new)

-- one plan more
pub TurnedBefore-more : (Open Done : List SourceType → Family → Family → Planned → Type 0) (old new : List Planned) (at : ℕ) (planned : Planned) → at < length new
    → TurnedBefore Open Done old new at → plan_state planned ≡ plan_state (get_or new at planned)
    → ((types : List SourceType) (F G : Family) → All (Open types F G) old → Done types F G planned)
    → TurnedBefore Open Done old (set new at planned) (at + 1)
TurnedBefore-more Open Done old new at planned lt h same done = record {
  states = map-set_same plan_state new at planned planned same ∙ h.states;
  before = λ types F G all. AllWithin-more_set new at planned lt (Done types F G) (h.before types F G all) (done types F G all);
  after = λ types F G all. after-set (Open types F G) new at planned (h.after types F G all);
}

-- all plans
pub all_turned : (Open Done : List SourceType → Family → Family → Planned → Type 0) (old new : List Planned) (at : ℕ) → length new ≤ at → TurnedBefore Open Done old new at
    → (types : List SourceType) (F G : Family) → All (Open types F G) old → All (Done types F G) new
all_turned Open Done old new at end h types F G all =
    All-from_all_within (Done types F G) new (λ k d low high. h.before types F G all k d low (omega (arith, end, high)))

-- what callers see of the plan at a place
pub state_here : (plans : List Planned) (i : ℕ) (planned : Planned) → i < length plans → planned ≡ get_or plans i planned
    → plan_state planned ≡ get_or (plan_states plans) i (plan_state planned)
state_here [] i planned lt is = absurd (omega (arith, lt))
state_here (plan ∷ plans) zero planned lt is = ap plan_state is
state_here (plan ∷ plans) (suc i) planned lt is = state_here plans i planned (omega (arith, lt)) is

-- plans of the same states have the same names
pub name-states : (xs ys : List Planned) (i : ℕ) (d : Planned) → plan_states xs ≡ plan_states ys → (get_or xs i d).name ≡ (get_or ys i d).name
name-states [] [] i d same = refl
name-states [] (y ∷ ys) i d same = cc
name-states (x ∷ xs) [] i d same = cc
name-states (x ∷ xs) (y ∷ ys) zero d same = let head : plan_state x ≡ plan_state y = cc in ap (λ (p : PlanState). p.name) head
name-states (x ∷ xs) (y ∷ ys) (suc i) d same = let rest : plan_states xs ≡ plan_states ys = cc in name-states xs ys i d rest
