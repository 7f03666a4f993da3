-- What each step of a plan makes, which is the first that doesn't fit, and how often an accepted plan uses a source.
use Rattle.std.specs.Prelude.{◌≡◌, ◌<◌, ◌≤◌, ℕ, suc, Bool, true, false, not, is_some, if◌then◌else◌, nat_eq, nat_le, List, [], ◌∷◌, ◌++◌, length, map, slice_get, slice_index_or, Option, Some, None}
use Rattle.std.specs.List.{AllByRecursion, list_all, position, range_with_len}
use Rattle.std.proofs.Common.{refl, sym, ap, ap₂, ◌∙◌, arith, take, true≢false}
use Rattle.std.proofs.lemmas.Bool.{and_parts, leb-true, ltb-true, not-true, true_from_ne_false}
use Rattle.std.proofs.lemmas.List.FromFn.{get_or-map-range_with_len, length-map-range_with_len}
use Rattle.std.proofs.lemmas.List.Folds.{list_any_at}
use Rattle.std.proofs.lemmas.List.Quantifiers.{position-Some}
use Rattle.std.proofs.lemmas.Option.{get_or_from_slice_get, slice_get-get_or, slice_get_within}
use Rattle.record_text.proofs.Lists.{passes_at}
use Rattle.datasets.specs.Dataset.{Dataset, empty}
use Rattle.plan_model.specs.declared.source_types.SourceType.{SourceType}
use Rattle.plan_model.specs.declared.step.Step.{Step}
use Rattle.plan_model.specs.Acceptance.{Accepts, max_uses}
use Rattle.plan_model.specs.Evaluation.{Family, eval_step, evals, last_or, left_dataset, operator_of}
use Rattle.plan_model.specs.Fits.{Fits, fits_if, step_fits}
use Rattle.plan_model.specs.Inputs.{inputs, of_inputs}
use Rattle.plan_model.specs.Laws.{AcceptedUsesAreFew, IsFirstMisfit, MisfitIsFirst, NoMisfit, StepsAreOperators}
use Rattle.plan_model.specs.Limits.{is_step}
use Rattle.plan_model.specs.Uses.{uses_at, uses_of_steps, uses_step}
use Rattle.plan_model.proofs.Accepted.{PassesAfter, holds_accepted}
use Rattle.plan_model.proofs.Plans.{step_of_plan}
use Rattle.plan_model.proofs.Positions.{is_some-position, position_none}
use Rattle.plan_model.proofs.StepByStep.{made_at, made_before, slice_index_or-step_by_step}

-- ---- inputs

-- the inputs of a step of a plan are earlier
pub inputs_are_earlier : (at : ℕ) (s : Step) → is_step at s ≡ true → AllByRecursion (λ i. i < at) (inputs s)
inputs_are_earlier at (Step.Source name) step = tt
inputs_are_earlier at (Step.Filter of test) step = (ltb-true of at (and_parts _ _ step).0, tt)
inputs_are_earlier at (Step.Select of row) step = (ltb-true of at (and_parts _ _ step).0, tt)
inputs_are_earlier at (Step.Many of over items) step = (ltb-true of at (and_parts _ _ (and_parts _ _ (and_parts _ _ step).0).0).0, tt)
inputs_are_earlier at (Step.Shave of runs) step = (ltb-true of at (and_parts _ _ step).0, tt)
inputs_are_earlier at (Step.Set kind left right) step = let parts = and_parts _ _ step in (ltb-true left at parts.0, (ltb-true right at parts.1, tt))
inputs_are_earlier at (Step.Join left right left_key right_key) step =
    let parts = and_parts _ _ (and_parts _ _ (and_parts _ _ step).0).0 in (ltb-true left at parts.0, (ltb-true right at parts.1, tt))
inputs_are_earlier at (Step.Group of key reduce) step = (ltb-true of at (and_parts _ _ step).0, tt)

same_inputs : {X : Type 0} (none : X) (xs ys : List X) (at : ℕ) → ((i : ℕ) → i < at → slice_index_or xs i none ≡ slice_index_or ys i none) →
    (is : List ℕ) → AllByRecursion (λ i. i < at) is → map (λ i. slice_index_or xs i none) is ≡ map (λ i. slice_index_or ys i none) is
same_inputs none xs ys at same [] earlier = refl
same_inputs none xs ys at same (i ∷ is) earlier = ap₂ (λ x zs. x ∷ zs) (same i earlier.0) (same_inputs none xs ys at same is earlier.1)

same_left : (types : List SourceType) (F : Family) (As Bs : List Dataset) (s : Step) → of_inputs empty As s ≡ of_inputs empty Bs s → left_dataset types F As s ≡ left_dataset types F Bs s
same_left types F As Bs (Step.Source name) same = refl
same_left types F As Bs s same = ap (λ xs. slice_index_or xs 0 empty) same

pub steps_are_operators : StepsAreOperators
steps_are_operators p types F i s plan at =
    let before = evals (take i p) types F in
    let all = evals p types F in
    let same = same_inputs empty before all i (λ j below. made_before (eval_step types F) p i s at j empty below) (inputs s) (inputs_are_earlier i s (step_of_plan p i s at plan)) in
    made_at (eval_step types F) p i s at empty
    ∙ ap₂ (operator_of s) (same_left types F before all s same) (ap (λ xs. slice_index_or xs 1 empty) same)

-- ---- the first step that doesn't fit

module _ (p : List Step) (types : List SourceType) (F : Family) where
  abbrev As : List Dataset
  As = evals p types F

  abbrev misfits : Step → Bool
  misfits s = not (step_fits types F As s)

  fits_here : (i : ℕ) (d : Step) → i < length p → fits_if types F As (slice_get p i) ≡ step_fits types F As (slice_index_or p i d)
  fits_here i d within = ap (fits_if types F As) (slice_get-get_or p i d within)

  first_misfit : (i : ℕ) (d : Step) → position misfits p ≡ Some i → IsFirstMisfit p types F i
  first_misfit i d is =
      let first = position-Some misfits p i d is in
      record {
        within = first.0;
        misfits = λ fits. true≢false (sym fits ∙ fits_here i d first.0 ∙ not-true (step_fits types F As (slice_index_or p i d)) first.1);
        before = λ j below. fits_here j d (omega (arith, first.0)) ∙ fits_from_not (step_fits types F As (slice_index_or p j d)) (first.2 j below);
      }
    where
      fits_from_not : (b : Bool) → not b ≡ false → b ≡ true
      fits_from_not true e = refl
      fits_from_not false e = sym e

  fits_where_none : position misfits p ≡ None → (i : ℕ) → Fits p types F i
  fits_where_none none i = true_from_ne_false (fits_if types F As (slice_get p i)) (λ here. at_step (slice_get p i) refl here)
    where
      at_step : (o : Option Step) → slice_get p i ≡ o → fits_if types F As o ≡ false → ⊥
      at_step None is here = true≢false here
      at_step (Some s) is here =
          let there : misfits (slice_index_or p i s) ≡ true = ap misfits (get_or_from_slice_get p i s s is) ∙ ap not here in
          true≢false (sym (list_any_at misfits p i s (slice_get_within p i s is) there) ∙ sym (is_some-position misfits p) ∙ ap is_some none)

  none_where_fits : ((i : ℕ) → Fits p types F i) → position misfits p ≡ None
  none_where_fits fits = position_none misfits p (length p) (omega arith) (λ i d within. ap not (sym (fits_here i d within) ∙ fits i))

pub misfit_is_first : MisfitIsFirst
misfit_is_first [] types F i is = cc
misfit_is_first (s ∷ p) types F i is = first_misfit (s ∷ p) types F i s is

pub no_misfit : NoMisfit
no_misfit p types F = (fits_where_none p types F, none_where_fits p types F)

-- ---- uses

-- a count of a list without one that is too great
few_at : (g : ℕ → ℕ) (n k : ℕ) → list_all (λ n. nat_le n max_uses) (map g (range_with_len 0 n)) ≡ true → k < n → g k ≤ max_uses
few_at g n k few within =
    let counts = map g (range_with_len 0 n) in
    let size : k < length counts = omega (arith, within, length-map-range_with_len g 0 n) in
    let here = slice_get-get_or counts k 0 size ∙ ap Some (get_or-map-range_with_len g 0 n k k 0 within (omega arith)) in
    leb-true (g k) max_uses (passes_at (λ n. nat_le n max_uses) counts k (g k) here few)

either_is_few : (b : Bool) (m n : ℕ) → m ≤ max_uses → n ≤ max_uses → (if b then m else n) ≤ max_uses
either_is_few true m n few old = few
either_is_few false m n few old = old

module _ (types : List SourceType) (source : ℕ) (within : source < length types) where
  few_more : (p : List Step) (s : Step) → PassesAfter types p s → ((i : ℕ) → uses_at p types i source ≤ max_uses) → (i : ℕ) → uses_at (p ++ s ∷ []) types i source ≤ max_uses
  few_more p s passes few i =
      let here = few_at (λ k. uses_step types k s (uses_of_steps p types k)) (length types) source passes.few_uses within in
      rw (slice_index_or-step_by_step (uses_step types source) p s 0 i) (either_is_few (nat_eq i (length p)) _ _ here (few i))

  uses_at-few : (p : List Step) → Accepts p types → (i : ℕ) → uses_at p types i source ≤ max_uses
  uses_at-few p accepts = holds_accepted types (λ q. (i : ℕ) → uses_at q types i source ≤ max_uses) few_more p accepts (λ i. omega arith)

-- the last of counts that are all few
last_is_few : (d : ℕ) (ns : List ℕ) → d ≤ max_uses → ((i : ℕ) → slice_index_or ns i 0 ≤ max_uses) → last_or d ns ≤ max_uses
last_is_few d [] few each = few
last_is_few d (n ∷ ns) few each = last_is_few n ns (each 0) (λ i. each (suc i))

pub accepted_uses_are_few : AcceptedUsesAreFew
accepted_uses_are_few p types source accepts within =
    let each = uses_at-few types source within p accepts in
    (last_is_few 0 (uses_of_steps p types source) (omega arith) each, each)
