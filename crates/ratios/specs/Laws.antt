-- Laws of the ratios, each the contract of a function.
use Rattle.std.specs.Prelude.{ℕ, ◌+◌, ◌<◌, ◌≡◌, ◌≢◌, ◌↔◌, true, not, ℤ, pos, ◌*ℤ◌, ◌≤ℤ◌, List, ◌++◌, length, take, slice_index_or, IsPermutation, None}
use Rattle.std.specs.declared.cmp.Ordering.TheVariants.{Equal}
use Rattle.ratios.specs.Ratio.{Ratio, ratio, ratio_add, ratio_sub, ratio_abs, ratio_cmp, is_at_most, is_below, ◌≼◌, zero_ratio}
use Rattle.ratios.specs.Range.{InRange}
use Rattle.ratios.specs.Sums.{ratio_sum, running_sums, runs_in_range, first_out_of_range}

-- `ratio z w` is z / w
abbrev pub RatioIsQuotient : Type 0
RatioIsQuotient = (z w : ℤ) → w ≢ pos 0 → (ratio z w).num *ℤ w ≡ z *ℤ pos (ratio z w).den

-- two ratios with equal cross products are equal
abbrev pub CrossProductsDecide : Type 0
CrossProductsDecide = (q r : Ratio) → q.num *ℤ pos r.den ≡ r.num *ℤ pos q.den → q ≡ r

-- q is at most r just where its cross product is
abbrev pub AtMostByCrossProducts : Type 0
AtMostByCrossProducts = (q r : Ratio) → (q ≼ r) ↔ ((q.num *ℤ pos r.den) ≤ℤ (r.num *ℤ pos q.den))

-- q is below r just where r isn't at most q
abbrev pub BelowIsNotAtLeast : Type 0
BelowIsNotAtLeast = (q r : Ratio) → is_below q r ≡ not (is_at_most r q)

-- a tie is equality
abbrev pub TieIsEquality : Type 0
TieIsEquality = (q r : Ratio) → ratio_cmp q r ≡ Equal → q ≡ r

-- adding 0 changes nothing
abbrev pub AddZeroIsSame : Type 0
AddZeroIsSame = (q : Ratio) → ratio_add q zero_ratio ≡ q

-- a sum of two is the same the other way round
abbrev pub AddIsCommutative : Type 0
AddIsCommutative = (q r : Ratio) → ratio_add q r ≡ ratio_add r q

-- a sum of three is the same in either grouping
abbrev pub AddIsAssociative : Type 0
AddIsAssociative = (q r s : Ratio) → ratio_add (ratio_add q r) s ≡ ratio_add q (ratio_add r s)

-- a sum is the same in any order
abbrev pub SumIsOrderFree : Type 0
SumIsOrderFree = (xs ys : List Ratio) → IsPermutation xs ys → ratio_sum xs ≡ ratio_sum ys

-- the sum of two lists, one after the other, is the sum of their sums
abbrev pub SumOfAppended : Type 0
SumOfAppended = (xs ys : List Ratio) → ratio_sum (xs ++ ys) ≡ ratio_add (ratio_sum xs) (ratio_sum ys)

-- q - q = 0
abbrev pub DifferenceToItself : Type 0
DifferenceToItself = (q : Ratio) → ratio_sub q q ≡ zero_ratio

-- no difference is equality
abbrev pub NoDifferenceIsEquality : Type 0
NoDifferenceIsEquality = (q r : Ratio) → ratio_sub q r ≡ zero_ratio → q ≡ r

-- q + (r - q) = r
abbrev pub DifferenceAddsBack : Type 0
DifferenceAddsBack = (q r : Ratio) → ratio_add q (ratio_sub r q) ≡ r

-- |0| = 0
abbrev pub AbsOfZero : Type 0
AbsOfZero = ratio_abs zero_ratio ≡ zero_ratio

-- 0 is at most |q|
abbrev pub AbsIsNonnegative : Type 0
AbsIsNonnegative = (q : Ratio) → zero_ratio ≼ ratio_abs q

-- |q + r| is at most |q| + |r|
abbrev pub AbsOfSum : Type 0
AbsOfSum = (q r : Ratio) → ratio_abs (ratio_add q r) ≼ ratio_add (ratio_abs q) (ratio_abs r)

-- |q - s| is at most |q - r| + |r - s|
abbrev pub TriangleInequality : Type 0
TriangleInequality = (q r s : Ratio) → ratio_abs (ratio_sub q s) ≼ ratio_add (ratio_abs (ratio_sub q r)) (ratio_abs (ratio_sub r s))

-- there are as many running sums as members, and each is the sum of a front
abbrev pub RunningSumsAreOfFronts : Type 0
RunningSumsAreOfFronts = (ws : List Ratio) → (length (running_sums ws) ≡ length ws) ×
    ((k : ℕ) (d : Ratio) → k < length ws → slice_index_or (running_sums ws) k d ≡ ratio_sum (take (k + 1) ws))

-- the sums on the way are in range just where that of each front is
abbrev pub RunsInRangeByFronts : Type 0
RunsInRangeByFronts = (ws : List Ratio) → (runs_in_range ws ≡ true) ↔ ((k : ℕ) → k < length ws → InRange (ratio_sum (take (k + 1) ws)))

-- no place is out of range just where the sums on the way are in range
abbrev pub NoPlaceOutOfRange : Type 0
NoPlaceOutOfRange = (ws : List Ratio) → (runs_in_range ws ≡ true) ↔ (first_out_of_range ws ≡ None)
