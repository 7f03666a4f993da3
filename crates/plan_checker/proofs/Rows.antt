-- How often the steps of a plan use each source, source by source and step by step.
use Rattle.std.specs.Prelude.{◌≡◌, ℕ, zero, suc, ◌+◌, ◌<◌, List, [], ◌∷◌, ◌++◌, length, map}
use Rattle.std.specs.List.{range_with_len}
use Rattle.std.proofs.Common.{refl, sym, ap, ap₂, ◌∙◌, arith}
use Rattle.std.proofs.lemmas.List.{map-append}
use Rattle.std.proofs.lemmas.List.FromFn.{get_or-map-range_with_len}
use Rattle.plan_model.specs.declared.source_types.SourceType.{SourceType}
use Rattle.plan_model.specs.declared.step.Step.{Step}
use Rattle.plan_model.specs.Acceptance.{fault_of_step, first_fault}
use Rattle.plan_model.specs.Evaluation.{last_or, step_by_step_after}
use Rattle.plan_model.specs.Types.{columns, signs}
use Rattle.plan_model.specs.Uses.{count_at, counts_of_step, uses, uses_step}
use Rattle.plan_checker.specs.Steps.{counts_of, row_step, rows_of_steps}
use Rattle.plan_checker.proofs.Members.{last_or-snoc}

-- functions that agree below the end of a range have one list of values over it
map-range_with_len-same : {X : Type 0} (f g : ℕ → X) (a n : ℕ) → ((j : ℕ) → j < a + n → f j ≡ g j) → map f (range_with_len a n) ≡ map g (range_with_len a n)
map-range_with_len-same f g a zero same = refl
map-range_with_len-same f g a (suc n) same =
    ap₂ (λ x xs. x ∷ xs) (same a (omega arith)) (map-range_with_len-same f g (a + 1) n (λ j below. same j (omega arith)))

module _ (types : List SourceType) where
  counts_of-more : (source : ℕ) → source < length types → (made : List (List ℕ)) (s : Step) →
      counts_of source (made ++ row_step types s made ∷ []) ≡ counts_of source made ++ uses_step types source s (counts_of source made) ∷ []
  counts_of-more source inside made s =
      map-append (λ counts. count_at counts source) made (row_step types s made ∷ [])
      ∙ ap (λ n. counts_of source made ++ n ∷ []) (get_or-map-range_with_len (λ j. uses_step types j s (counts_of j made)) 0 (length types) source source 0 inside (omega arith))

  counts_of-rows_after : (source : ℕ) → source < length types → (made : List (List ℕ)) (ss : List Step) →
      counts_of source (step_by_step_after (row_step types) made ss) ≡ step_by_step_after (uses_step types source) (counts_of source made) ss
  counts_of-rows_after source inside made [] = refl
  counts_of-rows_after source inside made (s ∷ ss) =
      counts_of-rows_after source inside (made ++ row_step types s made ∷ []) ss
      ∙ ap (λ ns. step_by_step_after (uses_step types source) ns ss) (counts_of-more source inside made s)

  -- a step's counts are its uses of the sources
  row_step-uses : (p : List Step) (s : Step) →
      row_step types s (rows_of_steps p types) ≡ counts_of_step types p s
  row_step-uses p s =
      map-range_with_len-same _ _ 0 (length types) (λ source inside. let below : source < length types = omega arith in ap (uses_step types source s) (counts_of-rows_after source below [] p))

  -- the fault that the checks find is the step's
  pub first_fault-of_step : (p : List Step) (s : Step) →
      first_fault types s (columns p types) (signs p types) (row_step types s (rows_of_steps p types)) ≡ fault_of_step types p s
  first_fault-of_step p s = ap (first_fault types s (columns p types) (signs p types)) (row_step-uses p s)

  last_counts_after : (made : List (List ℕ)) (s : Step) (ss : List Step) →
      map (λ source. last_or 0 (step_by_step_after (uses_step types source) (counts_of source made) (s ∷ ss))) (range_with_len 0 (length types))
      ≡ last_or [] (step_by_step_after (row_step types) made (s ∷ ss))
  last_counts_after made s [] =
      map-range_with_len-same _ _ 0 (length types) (λ source inside. last_or-snoc 0 (counts_of source made) (uses_step types source s (counts_of source made)))
      ∙ sym (last_or-snoc [] made (row_step types s made))
  last_counts_after made s (t ∷ ss) =
      map-range_with_len-same _ _ 0 (length types)
      (λ source inside. let below : source < length types = omega arith in
      ap (λ ns. last_or 0 (step_by_step_after (uses_step types source) ns (t ∷ ss))) (sym (counts_of-more source below made s)))
      ∙ last_counts_after (made ++ row_step types s made ∷ []) t ss

  -- the counts of the last step are the plan's uses of the sources
  pub last_counts : (p : List Step) → 0 < length p → last_or [] (rows_of_steps p types) ≡ map (uses p types) (range_with_len 0 (length types))
  last_counts [] some = absurd (omega arith)
  last_counts (s ∷ ss) some = sym (last_counts_after [] s ss)
