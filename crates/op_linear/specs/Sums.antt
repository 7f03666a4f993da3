-- The weights of the part of a select at a key, and their sums.
use Rattle.std.specs.Prelude.{◌≡◌, Bool, true, false, not, cond, filter, fold, List, [], ◌∷◌, map, refl}
use Rattle.std.proofs.Common.{ap, ap₂, ◌∙◌}
use Rattle.std.proofs.lemmas.Bool.{and_parts, or_parts}
use Rattle.ratios.specs.Range.{InRange, all_in_range}
use Rattle.ratios.specs.Ratio.{Ratio, one_ratio, ratio_add, ratio_mul, zero_ratio}
use Rattle.ratios.specs.Sums.{ratio_sum, running_sums_after, runs_in_range}
use Rattle.ratios.proofs.Products.{ratio_mul_one}
use Rattle.datasets.specs.Dataset.{Dataset, at, rows}
use Rattle.datasets.specs.Entries.{Row, has_row, is_zero, same_row}
use Rattle.datasets.specs.Kept.{is_zero-zero_ratio}
use Rattle.datasets.proofs.Members.{at-member}
use Rattle.operators.specs.InRange.{select_in_range}
use Rattle.operators.specs.Operators.{select_terms}
use Rattle.operators.specs.Weights.{weights_for}
use Rattle.weighted_set.specs.Parts.{part_of}
use Rattle.weighted_set.proofs.Sets.{InRange-zero}
use Rattle.operators.specs.Keys.{one_key}
use Rattle.op_parts.proofs.Members.{AllByRecursion-from_list_all, list_all-everywhere}
use Rattle.op_parts.proofs.OneRows.{at-one_row, is_zero-one_ratio}
use Rattle.op_parts.proofs.PartEntries.{weights-part_of}
use Rattle.op_linear.specs.Summed.{weights}

-- ---- the weights of a part

module _ (f : Row → Row) (z : Row) (A : Dataset) where
  -- the row's factor at the key z
  abbrev factor_of : Row → Ratio
  factor_of x = at (one_key (f x)) z

  abbrev share : Row → Ratio
  share x = ratio_mul (at A x) (factor_of x)

  whole_share : (x : Row) → same_row z (f x) ≡ true → share x ≡ at A x
  whole_share x p = ap (ratio_mul (at A x)) (at-one_row (f x) one_ratio z ∙ ap (λ b. cond b one_ratio zero_ratio) p) ∙ ratio_mul_one (at A x)

  shares_for : (xs : List Row) → map share (filter (λ x. not (is_zero (factor_of x))) xs) ≡ weights_for f (at A) xs z
  shares_for [] = refl
  shares_for (x ∷ xs) =
      let kept = filter (λ x. not (is_zero (factor_of x))) xs in
      ap (λ w. map share (cond (not (is_zero w)) (x ∷ kept) kept)) (at-one_row (f x) one_ratio z)
      ∙ elim (same_row z (f x)) as (λ b. same_row z (f x) ≡ b → map share (cond (not (is_zero (cond b one_ratio zero_ratio))) (x ∷ kept) kept) ≡ map (at A) (cond b (x ∷ filter (λ x. same_row z (f x)) xs) (filter (λ x. same_row z (f x)) xs))) [
        | true ↦ λ p. ap (λ b. map share (cond (not b) (x ∷ kept) kept)) is_zero-one_ratio ∙ ap₂ (λ w ws. w ∷ ws) (whole_share x p) (shares_for xs)
        | false ↦ λ p. ap (λ b. map share (cond (not b) (x ∷ kept) kept)) is_zero-zero_ratio ∙ shares_for xs
      ] refl

  -- they are the weights of the rows that give the key, in row order
  pub weights-part : weights (part_of (λ x. one_key (f x)) z A) ≡ select_terms f A z
  weights-part = weights-part_of (λ x. one_key (f x)) z A ∙ shares_for (rows A)

-- ---- sums

sum_after : (q : Ratio) (ws : List Ratio) → InRange q → all_in_range (running_sums_after q ws) ≡ true → InRange (fold ratio_add q ws)
sum_after q [] h runs = h
sum_after q (w ∷ ws) h runs =
    let p = and_parts _ (all_in_range (running_sums_after (ratio_add q w) ws)) runs in sum_after (ratio_add q w) ws p.0 p.1

-- the sum is the last of the running sums
pub sum_in_range : (ws : List Ratio) → runs_in_range ws ≡ true → InRange (ratio_sum ws)
sum_in_range ws runs = sum_after zero_ratio ws InRange-zero runs

-- no row gives what is not among the rows that are given
no_terms : (f : Row → Row) (weight : Row → Ratio) (xs : List Row) (z : Row) → has_row (map f xs) z ≡ false → weights_for f weight xs z ≡ []
no_terms f weight [] z h = refl
no_terms f weight (x ∷ xs) z h =
    let p = or_parts (same_row z (f x)) (has_row (map f xs) z) h in
    ap (λ b. map weight (cond b (x ∷ filter (λ x. same_row z (f x)) xs) (filter (λ x. same_row z (f x)) xs))) p.0 ∙ no_terms f weight xs z p.1

-- the running sums are in range at each row of the output just where they are at every row
pub runs-tested : (f : Row → Row) (A : Dataset) → select_in_range f A ≡ true → (z : Row) → runs_in_range (select_terms f A z) ≡ true
runs-tested f A h z = here (has_row (map f (rows A)) z) (no_terms f (at A) (rows A) z) found
  where
    found : has_row (map f (rows A)) z ≡ true → runs_in_range (select_terms f A z) ≡ true
    found = at-member (λ z. runs_in_range (select_terms f A z) ≡ true) (map f (rows A)) z (AllByRecursion-from_list_all (λ z. runs_in_range (select_terms f A z)) (map f (rows A)) h)

    here : (b : Bool) → (b ≡ false → select_terms f A z ≡ []) → (b ≡ true → runs_in_range (select_terms f A z) ≡ true) → runs_in_range (select_terms f A z) ≡ true
    here true none there = there refl
    here false none there = ap runs_in_range (none refl)

pub select_in_range-everywhere : (f : Row → Row) (A : Dataset) → ((z : Row) → runs_in_range (select_terms f A z) ≡ true) → select_in_range f A ≡ true
select_in_range-everywhere f A h = list_all-everywhere (λ z. runs_in_range (select_terms f A z)) (map f (rows A)) h
