-- The weights of a dataset in which entries add up.
use Rattle.std.specs.Prelude.{◌≡◌, true, false, cond, filter, List, [], ◌∷◌, ◌++◌, map, refl}
use Rattle.std.proofs.Common.{sym, ap, ◌∙◌}
use Rattle.std.proofs.lemmas.List.{map-append}
use Rattle.std.proofs.lemmas.List.Elements.{filter-append}
use Rattle.ratios.specs.Ratio.{Ratio, ratio_add}
use Rattle.ratios.specs.Sums.{ratio_sum}
use Rattle.ratios.proofs.Additive.{ratio_add_assoc, ratio_add_zero, ratio_zero_add}
use Rattle.ratios.proofs.SumLaws.{ratio_sum-append, ratio_sum-cons}
use Rattle.datasets.specs.Dataset.{Dataset, add_at, at, empty, with_added}
use Rattle.datasets.specs.Entries.{Entries, Row, same_row}
use Rattle.datasets.proofs.Weights.{at-add_at, at-empty}
use Rattle.operators.specs.Weights.{collected, gathered, pairs, weights_at, weights_for}

-- each row weighs as much more as its entries weigh
pub at-with_added : (A : Dataset) (es : Entries) (z : Row) → at (with_added A es) z ≡ ratio_add (at A z) (ratio_sum (weights_at z es))
at-with_added A [] z = sym (ratio_add_zero (at A z))
at-with_added A (e ∷ es) z =
    at-with_added (add_at e.0 e.1 A) es z
    ∙ ap (λ q. ratio_add q (ratio_sum (weights_at z es))) (at-add_at e.0 e.1 A z)
    ∙ elim (same_row z e.0) as (λ b. ratio_add (cond b (ratio_add (at A z) e.1) (at A z)) (ratio_sum (weights_at z es)) ≡ ratio_add (at A z) (ratio_sum (map (λ e. e.1) (cond b (e ∷ filter (λ e. same_row z e.0) es) (filter (λ e. same_row z e.0) es))))) [
      | true ↦ ratio_add_assoc (at A z) e.1 (ratio_sum (weights_at z es)) ∙ ap (ratio_add (at A z)) (sym (ratio_sum-cons e.1 (weights_at z es)))
      | false ↦ refl
    ]

pub at-collected : (es : Entries) (z : Row) → at (collected es) z ≡ ratio_sum (weights_at z es)
at-collected es z =
    at-with_added empty es z ∙ ap (λ q. ratio_add q (ratio_sum (weights_at z es))) (at-empty z) ∙ ratio_zero_add (ratio_sum (weights_at z es))

pub weights_for-map : {X Y : Type 0} (row : Y → Row) (weight : Y → Ratio) (f : X → Y) (xs : List X) (z : Row) → weights_for row weight (map f xs) z ≡ weights_for (λ x. row (f x)) (λ x. weight (f x)) xs z
weights_for-map row weight f [] z = refl
weights_for-map row weight f (x ∷ xs) z =
    elim (same_row z (row (f x))) as (λ b. map weight (cond b (f x ∷ filter (λ y. same_row z (row y)) (map f xs)) (filter (λ y. same_row z (row y)) (map f xs))) ≡ map (λ x. weight (f x)) (cond b (x ∷ filter (λ x. same_row z (row (f x))) xs) (filter (λ x. same_row z (row (f x))) xs))) [
      | true ↦ ap (λ ws. weight (f x) ∷ ws) (weights_for-map row weight f xs z)
      | false ↦ weights_for-map row weight f xs z
    ]

-- a row weighs what the members that give it weigh together
pub at-gathered : {X : Type 0} (row : X → Row) (weight : X → Ratio) (xs : List X) (z : Row) → at (gathered row weight xs) z ≡ ratio_sum (weights_for row weight xs z)
at-gathered row weight xs z = at-collected (map (λ x. (row x, weight x)) xs) z ∙ ap ratio_sum (weights_for-map (λ e. e.0) (λ e. e.1) (λ x. (row x, weight x)) xs z)

-- ---- sums over pairs

pub weights_for-append : {X : Type 0} (row : X → Row) (weight : X → Ratio) (xs ys : List X) (z : Row) → weights_for row weight (xs ++ ys) z ≡ weights_for row weight xs z ++ weights_for row weight ys z
weights_for-append row weight xs ys z =
    ap (map weight) (filter-append (λ x. same_row z (row x)) xs ys) ∙ map-append weight (filter (λ x. same_row z (row x)) xs) (filter (λ x. same_row z (row x)) ys)

-- what the pairs that give a row weigh is the sum of what they weigh at each first member
pub ratio_sum-pairs : {X Y : Type 0} (row : X × Y → Row) (weight : X × Y → Ratio) (f : X → List Y) (xs : List X) (z : Row) →
    ratio_sum (weights_for row weight (pairs xs f) z) ≡ ratio_sum (map (λ x. ratio_sum (weights_for (λ y. row (x, y)) (λ y. weight (x, y)) (f x) z)) xs)
ratio_sum-pairs row weight f [] z = refl
ratio_sum-pairs row weight f (x ∷ xs) z =
    let here = weights_for (λ y. row (x, y)) (λ y. weight (x, y)) (f x) z in
    let rest = map (λ x. ratio_sum (weights_for (λ y. row (x, y)) (λ y. weight (x, y)) (f x) z)) xs in
    ap ratio_sum (weights_for-append row weight (map (λ y. (x, y)) (f x)) (pairs xs f) z)
    ∙ ratio_sum-append (weights_for row weight (map (λ y. (x, y)) (f x)) z) (weights_for row weight (pairs xs f) z)
    ∙ ap (λ ws. ratio_add (ratio_sum ws) (ratio_sum (weights_for row weight (pairs xs f) z))) (weights_for-map row weight (λ y. (x, y)) (f x) z)
    ∙ ap (ratio_add (ratio_sum here)) (ratio_sum-pairs row weight f xs z)
    ∙ sym (ratio_sum-cons (ratio_sum here) rest)
