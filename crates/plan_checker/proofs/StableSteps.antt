-- The operator of each step is stable in both of its inputs: the laws of the operators, step by step.
use Rattle.std.specs.Prelude.{◌≡◌, ◌<◌, ◌+◌, ℕ, zero, suc, Bool, true, false, nat_le, nat_lt, List, [], ◌∷◌, replicate}
use Rattle.std.specs.List.{AllByRecursion, list_all}
use Rattle.std.proofs.Common.{arith}
use Rattle.std.proofs.lemmas.Bool.{and_parts, not-true}
use Rattle.std.proofs.lemmas.Bool.Decides.{nat_tests}
use Rattle.ratios.specs.Ratio.{Ratio, is_below, ratio_add, zero_ratio}
use Rattle.ratios.proofs.AtMost.{at_most_if_below}
use Rattle.ratios.proofs.Field.{le_add, le_from, le_trans}
use Rattle.ratios.proofs.Linear.{◌⊑◌}
use Rattle.datasets.specs.Dataset.{Dataset, dist}
use Rattle.datasets.proofs.Distances.{dist-nonneg}
use Rattle.datasets.proofs.Members.{AllByRecursion-append}
use Rattle.operators.specs.Laws.{NoneNegative}
use Rattle.operators.specs.Operators.{pointwise}
use Rattle.stability_laws.proofs.Grouped.{group_stable}
use Rattle.stability_laws.proofs.Join.{join_stable}
use Rattle.stability_laws.proofs.Plain.{concat_stable, except_stable, filter_stable, intersect_stable, select_stable, union_stable}
use Rattle.stability_laws.proofs.Shares.{many_stable, shave_stable}
use Rattle.plan_model.specs.declared.step.Run.{Run}
use Rattle.plan_model.specs.declared.step.SetKind.{SetKind}
use Rattle.plan_model.specs.declared.step.Step.{Step}
use Rattle.plan_model.specs.Acceptance.{takes_sign}
use Rattle.plan_model.specs.Evaluation.{giving, operator_of, passes, pieces, reduced_to, row_of, set_weight}
use Rattle.plan_model.specs.Limits.{are_steps, is_item, is_run, is_step, max_item_weight}

-- ---- what the laws ask of a step

-- an `over` above 0, and no piece below 0
abbrev pub IsLawful : Step → Type 0
IsLawful (Step.Many of over items) = 0 < over
IsLawful (Step.Shave of runs) = AllByRecursion (λ f. zero_ratio ⊑ f) (pieces runs)
IsLawful _ = Unit {0}

-- where a weight of the left input may be negative, the step takes that; else none is
pub record TakesSigns (s : Step) (A C : Dataset) : Type 0 where
  pub flag : Bool
  pub takes : takes_sign s flag ≡ true
  pub first : flag ≡ false → NoneNegative A
  pub second : flag ≡ false → NoneNegative C

-- ---- the laws

set_stable : (kind : SetKind) (A B C D : Dataset) → dist (pointwise (set_weight kind) A B) (pointwise (set_weight kind) C D) ⊑ ratio_add (dist A C) (dist B D)
set_stable SetKind.Union A B C D = union_stable A B C D
set_stable SetKind.Intersect A B C D = intersect_stable A B C D
set_stable SetKind.Concat A B C D = concat_stable A B C D
set_stable SetKind.Except A B C D = except_stable A B C D

pub operator_stable : (s : Step) → IsLawful s → (A B C D : Dataset) → TakesSigns s A C → dist (operator_of s A B) (operator_of s C D) ⊑ ratio_add (dist A C) (dist B D)
operator_stable (Step.Source name) law A B C D signs = le_add (dist A C) (dist-nonneg B D)
operator_stable (Step.Filter of test) law A B C D signs = le_trans (filter_stable (passes test) A C) (le_add (dist A C) (dist-nonneg B D))
operator_stable (Step.Select of row) law A B C D signs = le_trans (select_stable (row_of row) A C) (le_add (dist A C) (dist-nonneg B D))
operator_stable (Step.Many of over items) law A B C D signs = le_trans (many_stable over (giving items) law A C) (le_add (dist A C) (dist-nonneg B D))
operator_stable (Step.Shave of runs) law A B C D signs = le_trans (shave_stable (pieces runs) law A C) (le_add (dist A C) (dist-nonneg B D))
operator_stable (Step.Set kind left right) law A B C D signs = set_stable kind A B C D
operator_stable (Step.Join left right left_key right_key) law A B C D signs = join_stable (row_of left_key) (row_of right_key) A B C D
operator_stable (Step.Group of key reduce) law A B C D signs =
    let none = not-true signs.flag signs.takes in
    le_trans (group_stable (row_of key) (reduced_to reduce) A C (signs.first none) (signs.second none)) (le_add (dist A C) (dist-nonneg B D))

-- ---- the limits of plans grant what the laws ask

pieces_nonneg : (runs : List Run) → list_all is_run runs ≡ true → AllByRecursion (λ f. zero_ratio ⊑ f) (pieces runs)
pieces_nonneg [] h = tt
pieces_nonneg (run ∷ runs) h =
    let parts = and_parts (is_run run) (list_all is_run runs) h in
    let above = (and_parts (is_below zero_ratio run.weight) (nat_le 1 run.times) parts.0).0 in
    AllByRecursion-append (λ f. zero_ratio ⊑ f) (replicate run.times run.weight) (pieces runs) (copies run.times run.weight (le_from zero_ratio run.weight (at_most_if_below zero_ratio run.weight above))) (pieces_nonneg runs parts.1)
  where
    copies : (n : ℕ) (w : Ratio) → zero_ratio ⊑ w → AllByRecursion (λ f. zero_ratio ⊑ f) (replicate n w)
    copies zero w h = tt
    copies (suc n) w h = (h, copies n w h)

at_least_one : (n : ℕ) → nat_le 1 n ≡ true → 0 < n
at_least_one n e = grind (arith, nat_tests)

lawful_step : (place : ℕ) (s : Step) → is_step place s ≡ true → IsLawful s
lawful_step place (Step.Source name) h = tt
lawful_step place (Step.Filter of test) h = tt
lawful_step place (Step.Select of row) h = tt
lawful_step place (Step.Many of over items) h =
    let first = (and_parts _ (nat_le over max_item_weight) (and_parts _ (list_all is_item items) h).0).0 in
    at_least_one over (and_parts (nat_lt of place) (nat_le 1 over) first).1
lawful_step place (Step.Shave of runs) h = pieces_nonneg runs (and_parts (nat_lt of place) (list_all is_run runs) h).1
lawful_step place (Step.Set kind left right) h = tt
lawful_step place (Step.Join left right left_key right_key) h = tt
lawful_step place (Step.Group of key reduce) h = tt

pub lawful_steps : (place : ℕ) (ss : List Step) → are_steps place ss ≡ true → AllByRecursion IsLawful ss
lawful_steps place [] h = tt
lawful_steps place (s ∷ ss) h =
    let parts = and_parts (is_step place s) (are_steps (place + 1) ss) h in
    (lawful_step place s parts.0, lawful_steps (place + 1) ss parts.1)
