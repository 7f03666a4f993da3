-- What is made of the first steps of a plan stays as it is when more steps follow.
use Rattle.std.specs.Prelude.{◌≡◌, ℕ, zero, suc, ◌+◌, ◌<◌, List, [], ◌∷◌, ◌++◌, length, map, slice_get, slice_index_or, Some, None}
use Rattle.std.specs.List.{AllByRecursion}
use Rattle.std.proofs.Common.{refl, sym, ap, ap₂, subst, ◌∙◌, arith, append_assoc, take, length-take-le}
use Rattle.std.proofs.lemmas.List.{append-nil}
use Rattle.std.proofs.lemmas.Option.{same_Some, slice_get_within}
use Rattle.record_text.proofs.Lists.{front_more}
use Rattle.plan_model.proofs.Accepted.{PassesAfter, Passes-fault_after}
use Rattle.plan_model.proofs.StepByStep.{length-step_by_step_after, made_before, step_by_step_after-snoc}
use Rattle.plan_model.specs.Acceptance.{fault_after}
use Rattle.plan_model.specs.Evaluation.{step_by_step}
use Rattle.plan_model.specs.Inputs.{inputs, of_inputs}
use Rattle.plan_model.specs.declared.source_types.SourceType.{SourceType}
use Rattle.plan_model.specs.declared.step.Step.{Step}

-- ---- the checks of each step
pub Passes-at : (types : List SourceType) (before ss : List Step) (i : ℕ) (s : Step) → fault_after types before ss ≡ None → slice_get ss i ≡ Some s → PassesAfter types (before ++ take i ss) s
Passes-at types before [] i s none at = cc
Passes-at types before (t ∷ ss) zero s none at =
    let parts = Passes-fault_after types before t ss none in
    subst (λ b. PassesAfter types b s) (sym (append-nil before)) (subst (PassesAfter types before) (same_Some t s at) parts.0)
Passes-at types before (t ∷ ss) (suc i) s none at =
    let parts = Passes-fault_after types before t ss none in
    subst (λ b. PassesAfter types b s) (append_assoc before (t ∷ []) (take i ss)) (Passes-at types (before ++ t ∷ []) ss i s parts.1 at)

-- ---- what is made of the first steps
module _ {X : Type 0} (f : Step → List X → X) (p : List Step) (n : ℕ) (s : Step) (at : slice_get p n ≡ Some s) where
  -- what is made of one step more
  pub made-more : (made : List X) → made ≡ step_by_step f (take n p) → made ++ f s made ∷ [] ≡ step_by_step f (take (n + 1) p)
  made-more made is = ap (λ m. m ++ f s m ∷ []) is ∙ sym (ap (step_by_step f) (front_more p n s at) ∙ step_by_step_after-snoc f [] (take n p) s)

  pub length-made : length (step_by_step f (take n p)) ≡ n
  length-made =
      let within = slice_get_within p n s at in
      let made = length-step_by_step_after f [] (take n p) in
      let front = length-take-le n p (omega arith) in
      omega arith

  -- what the inputs of the step have is made of the steps before it
  inputs-front : (none : X) (is : List ℕ) → AllByRecursion (λ j. j < n) is → map (λ i. slice_index_or (step_by_step f p) i none) is ≡ map (λ i. slice_index_or (step_by_step f (take n p)) i none) is
  inputs-front none [] before = refl
  inputs-front none (i ∷ is) before = ap₂ (λ x xs. x ∷ xs) (sym (made_before f p n s at i none before.0)) (inputs-front none is before.1)

  pub of_inputs-front : (none : X) → AllByRecursion (λ j. j < n) (inputs s) → of_inputs none (step_by_step f p) s ≡ of_inputs none (step_by_step f (take n p)) s
  of_inputs-front none before = inputs-front none (inputs s) before
