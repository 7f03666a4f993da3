-- What the items make of a row are shares of its weight.
use Rattle.std.specs.Prelude.{◌≡◌, ℕ, pos, true, false, cond, filter, List, [], ◌∷◌, map, refl}
use Rattle.std.proofs.Common.{sym, ap, ap₂, ◌∙◌}
use Rattle.std.proofs.lemmas.List.Sums.{sum_by-cons}
use Rattle.ratios.proofs.Products.{ratio_mul_add, ratio_mul_zero, ratio_of_both, ratio_of_none}
use Rattle.ratios.specs.Ratio.{Ratio, ratio, ratio_add, ratio_mul}
use Rattle.ratios.specs.Sums.{ratio_sum}
use Rattle.ratios.proofs.SumLaws.{ratio_sum-cons}
use Rattle.datasets.specs.Dataset.{Dataset, at, rows}
use Rattle.datasets.specs.Entries.{Row, same_row}
use Rattle.operators.specs.Weights.{pairs, weights_for}
use Rattle.operators.specs.Operators.{Giving, applying, divisor, factor, many_weight, spread, weight_of}
use Rattle.operators.proofs.Gathered.{at-gathered, ratio_sum-pairs}

-- the shares of the items that give z are the share of their weight
shares : (y z : Row) (w : Ratio) (d : ℕ) (is : List Giving) →
    ratio_sum (weights_for (λ i. i.row y) (λ i. ratio_mul w (ratio (pos i.weight) (pos d))) is z) ≡ ratio_mul w (ratio (pos (weight_of (filter (λ i. same_row z (i.row y)) is))) (pos d))
shares y z w d [] = sym (ap (ratio_mul w) (ratio_of_none d) ∙ ratio_mul_zero w)
shares y z w d (i ∷ is) =
    let share : Giving → Ratio = λ i. ratio_mul w (ratio (pos i.weight) (pos d)) in
    let giving = filter (λ i. same_row z (i.row y)) is in
    elim (same_row z (i.row y)) as (λ b. ratio_sum (map share (cond b (i ∷ giving) giving)) ≡ ratio_mul w (ratio (pos (weight_of (cond b (i ∷ giving) giving))) (pos d))) [
      | true ↦
          ratio_sum-cons (share i) (map share giving)
          ∙ ap (ratio_add (share i)) (shares y z w d is)
          ∙ sym (ratio_mul_add w (ratio (pos i.weight) (pos d)) (ratio (pos (weight_of giving)) (pos d)))
          ∙ ap (ratio_mul w) (sym (ratio_of_both i.weight (weight_of giving) d))
          ∙ ap (λ n. ratio_mul w (ratio (pos n) (pos d))) (sym (sum_by-cons (λ i. i.weight) i giving))
      | false ↦ shares y z w d is
    ]

sums_of_shares : (over : ℕ) (items : List Giving) (A : Dataset) (z : Row) (ys : List Row) →
    map (λ y. ratio_sum (weights_for (λ i. i.row y) (λ i. ratio_mul (at A y) (ratio (pos i.weight) (pos (divisor over items y)))) (applying items y) z)) ys ≡ map (λ y. ratio_mul (at A y) (factor over items y z)) ys
sums_of_shares over items A z [] = refl
sums_of_shares over items A z (y ∷ ys) = ap₂ (λ q qs. q ∷ qs) (shares y z (at A y) (divisor over items y) (applying items y)) (sums_of_shares over items A z ys)

pub at-spread : (over : ℕ) (items : List Giving) (A : Dataset) (z : Row) → at (spread over items A) z ≡ many_weight over items A z
at-spread over items A z =
    let row : Row × Giving → Row = λ p. p.1.row p.0 in
    let weight : Row × Giving → Ratio = λ p. ratio_mul (at A p.0) (ratio (pos p.1.weight) (pos (divisor over items p.0))) in
    at-gathered row weight (pairs (rows A) (applying items)) z
    ∙ ratio_sum-pairs row weight (applying items) (rows A) z
    ∙ ap ratio_sum (sums_of_shares over items A z (rows A))
