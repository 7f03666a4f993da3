-- A plan's outputs in two worlds are no further apart than its sources, each as often as the plan uses it: by
-- induction over the steps.
use Rattle.std.specs.Prelude.{◌≡◌, ◌<◌, ◌+◌, ℕ, zero, suc, Bool, true, false, if◌then◌else◌, nat_eq, nat_le, List, [], ◌∷◌, ◌++◌, length, map, slice_index_or, sum, Option, Some, None, option_map, refl}
use Rattle.std.specs.List.{AllByRecursion, range_with_len}
use Rattle.std.specs.Option.{unwrap_or}
use Rattle.std.proofs.Common.{arith, sym, ap₂, subst, ◌∙◌, append_assoc, true≢false}
use Rattle.std.proofs.lemmas.Bool.{and_parts}
use Rattle.std.proofs.lemmas.List.{append-nil}
use Rattle.std.proofs.lemmas.List.Quantifiers.{position-Some}
use Rattle.record_text.specs.Names.{name_eq}
use Rattle.ratios.specs.Ratio.{Ratio, ratio_add}
use Rattle.ratios.proofs.Additive.{ratio_add_zero}
use Rattle.ratios.proofs.Field.{add_le, le_same, le_then, le_trans, same_then}
use Rattle.ratios.proofs.Linear.{◌⊑◌}
use Rattle.datasets.specs.Dataset.{Dataset, dist, empty}
use Rattle.datasets.proofs.Distances.{dist-itself}
use Rattle.plan_model.specs.declared.source_types.SourceType.{SourceType}
use Rattle.plan_model.specs.declared.step.Step.{Step}
use Rattle.plan_model.specs.Acceptance.{Accepts, fault_after, may_group}
use Rattle.plan_model.specs.Evaluation.{Family, dataset_at, eval_at, eval_step, evals, last_or, left_dataset, right_dataset, step_by_step}
use Rattle.plan_model.specs.Limits.{are_steps, is_plan, is_size}
use Rattle.plan_model.specs.Sizes.{max_steps}
use Rattle.plan_model.specs.Sources.{place_of}
use Rattle.plan_model.specs.Types.{Keeps, columns, left_sign, signs}
use Rattle.plan_model.specs.Uses.{count_at, is_place, uses, uses_at, uses_of_steps, uses_step}
use Rattle.plan_model.proofs.Accepted.{Passes-fault_after}
use Rattle.plan_model.proofs.AcceptedTypes.{TypedAt, TypedAt-snoc}
use Rattle.plan_model.proofs.StepByStep.{length-step_by_step_after, slice_index_or-step_by_step}
use Rattle.plan_model.proofs.TypedSteps.{IsTyped-empty, IsTyped-left}
use Rattle.plan_checker.specs.Stability.{IsStable}
use Rattle.plan_checker.proofs.Charges.{charge, charge_add, charge_just, charge_nonneg, charge_same, charged_is}
use Rattle.plan_checker.proofs.StableSteps.{IsLawful, TakesSigns, lawful_steps, operator_stable}

-- ---- a step, over what was made of the steps before

-- the place of a source is one of the sources
place_within : (name : List ℕ) (types : List SourceType) (i : ℕ) → place_of name types ≡ Some i → i < length types
place_within name [] i e = cc
place_within name (t ∷ types) i e = (position-Some (λ u. name_eq name u.name) (t ∷ types) i t e).0

module _ (types : List SourceType) (F G : Family) where
  -- what the sources are charged, each so often as f says
  abbrev spent : (ℕ → ℕ) → Ratio
  spent f = charge F G (length types) f

  none_spent : (f : ℕ → ℕ) → dist empty empty ⊑ spent f
  none_spent f = same_then (dist-itself empty) (charge_nonneg F G (length types) f)

  source_stable : (place : Option ℕ) → ((i : ℕ) → place ≡ Some i → i < length types) →
      dist (unwrap_or (option_map (dataset_at F) place) empty) (unwrap_or (option_map (dataset_at G) place) empty) ⊑ spent (λ s. if is_place s place then 1 else 0)
  source_stable None h = none_spent (λ s. 0)
  source_stable (Some i) h = charge_just F G i (length types) (h i refl)

  -- the steps before are no further apart than they are charged
  module _ (As Bs : List Dataset) (ns : ℕ → List ℕ) (near : (i : ℕ) → dist (dataset_at As i) (dataset_at Bs i) ⊑ spent (λ s. count_at (ns s) i)) where
    -- how far apart the two inputs of a step are
    abbrev inputs_apart : Step → Ratio
    inputs_apart s = ratio_add (dist (left_dataset types F As s) (left_dataset types G Bs s)) (dist (right_dataset As s) (right_dataset Bs s))

    one_input : (i : ℕ) → ratio_add (dist (dataset_at As i) (dataset_at Bs i)) (dist empty empty) ⊑ spent (λ s. sum (count_at (ns s) i ∷ []))
    one_input i =
        le_then (add_le (near i) (le_same (dist-itself empty)))
        (ratio_add_zero (spent (λ s. count_at (ns s) i)) ∙ charge_same F G (length types) (λ s. count_at (ns s) i) (λ s. sum (count_at (ns s) i ∷ [])) (λ s. omega arith))

    two_inputs : (i j : ℕ) → ratio_add (dist (dataset_at As i) (dataset_at Bs i)) (dist (dataset_at As j) (dataset_at Bs j)) ⊑ spent (λ s. sum (count_at (ns s) i ∷ count_at (ns s) j ∷ []))
    two_inputs i j =
        le_then (add_le (near i) (near j))
        (sym (charge_add F G (length types) (λ s. count_at (ns s) i) (λ s. count_at (ns s) j))
        ∙ charge_same F G (length types) (λ s. count_at (ns s) i + count_at (ns s) j) (λ s. sum (count_at (ns s) i ∷ count_at (ns s) j ∷ [])) (λ s. omega arith))

    inputs_near : (s : Step) → inputs_apart s ⊑ spent (λ src. uses_step types src s (ns src))
    inputs_near (Step.Source name) =
        le_then (add_le (source_stable (place_of name types) (place_within name types)) (le_same (dist-itself empty)))
        (ratio_add_zero (spent (λ s. if is_place s (place_of name types) then 1 else 0)))
    inputs_near (Step.Filter of test) = one_input of
    inputs_near (Step.Select of row) = one_input of
    inputs_near (Step.Many of over items) = one_input of
    inputs_near (Step.Shave of runs) = one_input of
    inputs_near (Step.Set kind left right) = two_inputs left right
    inputs_near (Step.Join left right left_key right_key) = two_inputs left right
    inputs_near (Step.Group of key reduce) = one_input of

    step_stable : (s : Step) → IsLawful s → TakesSigns s (left_dataset types F As s) (left_dataset types G Bs s) →
        dist (eval_step types F s As) (eval_step types G s Bs) ⊑ spent (λ src. uses_step types src s (ns src))
    step_stable s law takes =
        le_trans (operator_stable s law (left_dataset types F As s) (right_dataset As s) (left_dataset types G Bs s) (right_dataset Bs s) takes) (inputs_near s)

  -- ---- all steps

  -- the step i is no further apart than it is charged
  abbrev StableAt : List Step → ℕ → Type 0
  StableAt p i = dist (eval_at p types F i) (eval_at p types G i) ⊑ spent (λ s. uses_at p types i s)

  either : (b : Bool) (A B C D : Dataset) (f g : ℕ → ℕ) → dist A C ⊑ spent f → dist B D ⊑ spent g → dist (if b then A else B) (if b then C else D) ⊑ spent (λ s. if b then f s else g s)
  either true A B C D f g h k = h
  either false A B C D f g h k = k

  module _ (keeps_first : Keeps types F) (keeps_second : Keeps types G) where
    -- both worlds are typed, and no further apart than that
    abbrev HoldsAt : List Step → ℕ → Type 0
    HoldsAt p i = TypedAt types F keeps_first p i × TypedAt types G keeps_second p i × StableAt p i

    signs_taken : (p : List Step) (s : Step) → may_group types s (signs p types) ≡ true → ((i : ℕ) → HoldsAt p i) → TakesSigns s (left_dataset types F (evals p types F) s) (left_dataset types G (evals p types G) s)
    signs_taken p s sign h = record {
      flag = left_sign types (signs p types) s;
      takes = sign;
      first = (IsTyped-left (columns p types) (signs p types) (evals p types F) (λ i. (h i).0) types F s keeps_first).sign;
      second = (IsTyped-left (columns p types) (signs p types) (evals p types G) (λ i. (h i).1) types G s keeps_second).sign;
    }

    StableAt-snoc : (p : List Step) (s : Step) → may_group types s (signs p types) ≡ true → IsLawful s → ((i : ℕ) → HoldsAt p i) → (i : ℕ) → StableAt (p ++ s ∷ []) i
    StableAt-snoc p s sign law h i =
        let new = step_stable (evals p types F) (evals p types G) (uses_of_steps p types) (λ i. (h i).2) s law (signs_taken p s sign h) in
        rw (slice_index_or-step_by_step (eval_step types F) p s empty i, slice_index_or-step_by_step (eval_step types G) p s empty i)
        (le_then (either (nat_eq i (length p)) _ _ _ _ (λ src. uses_step types src s (uses_of_steps p types src)) (λ src. uses_at p types i src) new (h i).2)
        (charge_same F G (length types) (λ src. if nat_eq i (length p) then uses_step types src s (uses_of_steps p types src) else uses_at p types i src) (λ src. uses_at (p ++ s ∷ []) types i src)
        (λ src. sym (slice_index_or-step_by_step (uses_step types src) p s 0 i))))

    StableAt-append : (p ss : List Step) → fault_after types p ss ≡ None → AllByRecursion IsLawful ss → ((i : ℕ) → HoldsAt p i) → (i : ℕ) → StableAt (p ++ ss) i
    StableAt-append p [] none lawful h i = subst (λ q. StableAt q i) (sym (append-nil p)) (h i).2
    StableAt-append p (s ∷ ss) none lawful h i =
        let parts = Passes-fault_after types p s ss none in
        subst (λ q. StableAt q i) (append_assoc p (s ∷ []) ss)
        (StableAt-append (p ++ s ∷ []) ss parts.1 lawful.1
        (λ i. (
          TypedAt-snoc types F keeps_first p s parts.0 (λ i. (h i).0) i,
          TypedAt-snoc types G keeps_second p s parts.0 (λ i. (h i).1) i,
          StableAt-snoc p s parts.0.not_negative lawful.0 h i,
        )) i)

    stable_at : (p : List Step) → Accepts p types → AllByRecursion IsLawful p → (i : ℕ) → StableAt p i
    stable_at p accepts lawful i = StableAt-append [] p accepts lawful (λ i. (IsTyped-empty [] true, IsTyped-empty [] true, none_spent (λ s. 0))) i

-- ---- the last step

last_or-at : {X : Type 0} (d : X) (xs : List X) (n : ℕ) → length xs ≡ suc n → last_or d xs ≡ slice_index_or xs n d
last_or-at d [] n e = absurd (omega arith)
last_or-at d (x ∷ []) zero e = refl
last_or-at d (x ∷ []) (suc n) e = absurd (omega arith)
last_or-at d (x ∷ y ∷ ys) zero e = absurd (omega arith)
last_or-at d (x ∷ y ∷ ys) (suc n) e = last_or-at d (y ∷ ys) n (omega arith)

last_made : {X : Type 0} (f : Step → List X → X) (d : X) (p : List Step) (n : ℕ) → length p ≡ suc n → last_or d (step_by_step f p) ≡ slice_index_or (step_by_step f p) n d
last_made f d p n e = last_or-at d (step_by_step f p) n (omega (arith, length-step_by_step_after f [] p))

some_step : (p : List Step) → nat_le 1 (length p) ≡ true → (n : ℕ) × (length p ≡ suc n)
some_step [] h = absurd (true≢false (sym h))
some_step (s ∷ ss) h = (length ss, refl)

pub plan_is_stable : (p : List Step) (types : List SourceType) → is_plan p ≡ true → Accepts p types → IsStable p types (map (uses p types) (range_with_len 0 (length types)))
plan_is_stable p types plan accepts F G keeps_first keeps_second =
    let limits = and_parts _ (are_steps 0 p) plan in
    let sizes = and_parts (is_size max_steps (length p)) _ limits.0 in
    let some = some_step p (and_parts (nat_le 1 (length p)) _ sizes.0).0 in
    let n = some.0 in
    let at_last = stable_at types F G keeps_first keeps_second p accepts (lawful_steps 0 p limits.1) n in
    (same_then (ap₂ dist (last_made (eval_step types F) empty p n some.1) (last_made (eval_step types G) empty p n some.1))
    (le_then at_last (charge_same F G (length types) (λ s. uses_at p types n s) (uses p types) (λ s. sym (last_made (uses_step types s) 0 p n some.1)) ∙ sym (charged_is F G (length types) (uses p types))))).le
