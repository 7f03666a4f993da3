-- Shave row by row: which rows give an output row, and which values are tested for each.
use Rattle.std.specs.Prelude.{ℕ, ◌-◌, ◌≡◌, ◌≢◌, Bool, true, false, cond, not, ◌||◌, ◌&&◌, List, [], ◌∷◌, filter, length, map, pos, refl}
use Rattle.std.specs.List.{AllByRecursion, list_all, range_with_len}
use Rattle.std.specs.List.Sorted.{IsStrictlySortedBy}
use Rattle.std.proofs.Common.{arith, sym, ap, ap₂, ◌∙◌, take, true≢false}
use Rattle.std.proofs.Math.Seq.{take-append_seam}
use Rattle.std.proofs.lemmas.Bool.{false_from_ne_true}
use Rattle.std.proofs.lemmas.List.{length-append}
use Rattle.std.proofs.lemmas.List.Folds.{list_all-append, list_all-map}
use Rattle.ratios.specs.Range.{in_range}
use Rattle.ratios.specs.Ratio.{Ratio, is_below, ratio_add, zero_ratio}
use Rattle.ratios.specs.Sums.{ratio_sum}
use Rattle.ratios.proofs.Additive.{ratio_add_zero, ratio_zero_add}
use Rattle.ratios.proofs.SumLaws.{ratio_sum-cons}
use Rattle.record_text.specs.declared.atom.Atom.TheVariants.{Int}
use Rattle.datasets.specs.Dataset.{Dataset, at, rows}
use Rattle.datasets.specs.Entries.{AreRising, Row, has_row, is_zero, same_row}
use Rattle.datasets.specs.Kept.{is_zero-zero_ratio}
use Rattle.datasets.proofs.Rows.{is_zero-other, same_row-equal, same_row-itself}
use Rattle.datasets.proofs.Weights.{at-absent}
use Rattle.operators.specs.InRange.{left_before, shave_in_range}
use Rattle.operators.specs.Operators.{cells, numbered, piece, shaved}
use Rattle.operators.specs.Weights.{pairs, weights_for}
use Rattle.operators.proofs.Gathered.{at-gathered, ratio_sum-pairs}
use Rattle.operators.proofs.SingleWeights.{AllByRecursion-has_row}
use Rattle.weighted_set.proofs.Parts.{absent_below, at-present}
use Rattle.op_parts.proofs.Members.{AllByRecursion-from_list_all, at-weighed}
use Rattle.op_shave.specs.Shave.{without_last}

-- ---- the row of an output row
pub without_last-numbered : (x : Row) (i : ℕ) → without_last (numbered (x, i)) ≡ x
without_last-numbered x i =
    let n : length (numbered (x, i)) - 1 ≡ length x = omega (arith, length-append x (Int (pos i) ∷ [])) in
    ap (λ n. take n (numbered (x, i))) n ∙ take-append_seam x (Int (pos i) ∷ [])

-- ---- the weight of an output row

-- what a row of weight w gives at z, where z's row is x
abbrev given : List Ratio → Ratio → Row → Row → Ratio
given fs w x z = ratio_sum (weights_for (λ i. numbered (x, i)) (λ i. piece fs w i) (range_with_len 0 (length fs)) z)

-- nothing where z has another row
weights_for-other : (fs : List Ratio) (w : Ratio) (x z : Row) (places : List ℕ) → same_row (without_last z) x ≡ false → weights_for (λ i. numbered (x, i)) (λ i. piece fs w i) places z ≡ []
weights_for-other fs w x z [] other = refl
weights_for-other fs w x z (i ∷ places) other =
    ap (λ b. map (λ i. piece fs w i) (cond b (i ∷ filter (λ i. same_row z (numbered (x, i))) places) (filter (λ i. same_row z (numbered (x, i))) places))) apart
    ∙ weights_for-other fs w x z places other
  where
    apart : same_row z (numbered (x, i)) ≡ false
    apart =
        false_from_ne_true (same_row z (numbered (x, i))) (λ e.
        let own : without_last z ≡ x = ap without_last (same_row-equal z (numbered (x, i)) e) ∙ without_last-numbered x i in
        true≢false (sym (same_row-itself x) ∙ ap (λ y. same_row y x) (sym own) ∙ other))

-- a sum over rising rows to which one row alone adds
sum_at_row : (h : Row → Ratio) (y : Row) (xs : List Row) → AreRising xs → ((x : Row) → same_row y x ≡ false → h x ≡ zero_ratio) → ratio_sum (map h xs) ≡ cond (has_row xs y) (h y) zero_ratio
unfolding IsStrictlySortedBy
sum_at_row h y [] rising other = refl
sum_at_row h y (x ∷ xs) rising other =
    ratio_sum-cons (h x) (map h xs)
    ∙ ap (ratio_add (h x)) (sum_at_row h y xs rising.1 other)
    ∙ elim (same_row y x) as (λ b. same_row y x ≡ b → ratio_add (h x) (cond (has_row xs y) (h y) zero_ratio) ≡ cond (b || has_row xs y) (h y) zero_ratio) [
      | true ↦ λ e.
          let same = same_row-equal y x e in
          ap (λ b. ratio_add (h x) (cond b (h y) zero_ratio)) (ap (has_row xs) same ∙ absent_below x xs rising.0) ∙ ratio_add_zero (h x) ∙ ap h (sym same)
      | false ↦ λ e. ap (λ q. ratio_add q (cond (has_row xs y) (h y) zero_ratio)) (other x e) ∙ ratio_zero_add (cond (has_row xs y) (h y) zero_ratio)
    ] refl

has_row-weighed : (A : Dataset) (x : Row) → has_row (rows A) x ≡ not (is_zero (at A x))
has_row-weighed A x =
    elim (has_row (rows A) x) as (λ b. has_row (rows A) x ≡ b → b ≡ not (is_zero (at A x))) [
      | true ↦ λ e. sym (ap not (is_zero-other (at A x) (at-present A x e)))
      | false ↦ λ e. sym (ap not (ap is_zero (at-absent A x e) ∙ is_zero-zero_ratio))
    ] refl

-- an output row weighs what its row gives, where that has a weight
pub at-shaved : (fs : List Ratio) (A : Dataset) (z : Row) → at (shaved fs A) z ≡ cond (not (is_zero (at A (without_last z)))) (given fs (at A (without_last z)) (without_last z) z) zero_ratio
at-shaved fs A z =
    at-gathered numbered (λ p. piece fs (at A p.0) p.1) (cells fs A) z
    ∙ ratio_sum-pairs numbered (λ p. piece fs (at A p.0) p.1) (λ x. range_with_len 0 (length fs)) (rows A) z
    ∙ sum_at_row (λ x. given fs (at A x) x z) (without_last z) (rows A) A.rising (λ x other. ap ratio_sum (weights_for-other fs (at A x) x z (range_with_len 0 (length fs)) other))
    ∙ ap (λ b. cond b (given fs (at A (without_last z)) (without_last z) z) zero_ratio) (has_row-weighed A (without_last z))

-- so it weighs as much where its row does
pub same_shaved : (fs : List Ratio) (A B : Dataset) (z : Row) → at A (without_last z) ≡ at B (without_last z) → at (shaved fs A) z ≡ at (shaved fs B) z
same_shaved fs A B z e =
    at-shaved fs A z ∙ ap (λ w. cond (not (is_zero w)) (given fs w (without_last z) z) zero_ratio) e ∙ sym (at-shaved fs B z)

-- ---- the values that are tested

-- what is left before each piece of w is in range, where that is above 0
abbrev pub row_in_range : List Ratio → Ratio → Bool
row_in_range fs w = list_all (λ i. not (is_below zero_ratio (left_before fs w i)) || in_range (left_before fs w i)) (range_with_len 0 (length fs))

list_all-pairs : {X Y : Type 0} (test : X × Y → Bool) (f : X → List Y) (xs : List X) → list_all test (pairs xs f) ≡ list_all (λ x. list_all (λ y. test (x, y)) (f x)) xs
list_all-pairs test f [] = refl
list_all-pairs test f (x ∷ xs) =
    list_all-append test (map (λ y. (x, y)) (f x)) (pairs xs f) ∙ ap₂ (λ a b. a && b) (list_all-map test (λ y. (x, y)) (f x)) (list_all-pairs test f xs)

shave_in_range-rows : (fs : List Ratio) (A : Dataset) → shave_in_range fs A ≡ list_all (λ x. row_in_range fs (at A x)) (rows A)
shave_in_range-rows fs A =
    list_all-pairs (λ p. not (is_below zero_ratio (left_before fs (at A p.0) p.1)) || in_range (left_before fs (at A p.0) p.1)) (λ x. range_with_len 0 (length fs)) (rows A)

list_all-from_AllByRecursion : {X : Type 0} (test : X → Bool) (xs : List X) → AllByRecursion (λ x. test x ≡ true) xs → list_all test xs ≡ true
list_all-from_AllByRecursion test [] h = refl
list_all-from_AllByRecursion test (x ∷ xs) h = ap₂ (λ a b. a && b) h.0 (list_all-from_AllByRecursion test xs h.1)

-- the test passes just where it does for each row with a weight
pub shave_in_range-tested : (fs : List Ratio) (A : Dataset) → shave_in_range fs A ≡ true → (x : Row) → at A x ≢ zero_ratio → row_in_range fs (at A x) ≡ true
shave_in_range-tested fs A h x weighed =
    at-weighed (λ x. row_in_range fs (at A x) ≡ true) A x (AllByRecursion-from_list_all (λ x. row_in_range fs (at A x)) (rows A) (sym (shave_in_range-rows fs A) ∙ h)) weighed

pub shave_in_range-each : (fs : List Ratio) (A : Dataset) → ((x : Row) → at A x ≢ zero_ratio → row_in_range fs (at A x) ≡ true) → shave_in_range fs A ≡ true
shave_in_range-each fs A h =
    shave_in_range-rows fs A
    ∙ list_all-from_AllByRecursion (λ x. row_in_range fs (at A x)) (rows A) (AllByRecursion-has_row (λ x. row_in_range fs (at A x) ≡ true) (rows A) (λ x there. h x (at-present A x there)))
