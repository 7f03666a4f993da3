-- What the tests of two ratios say: `is_at_most`, and the greater and the less by it.
use Rattle.std.specs.Prelude.{ℕ, ◌≡◌, Bool, true, false, not, cond, ℤ, pos, ◌*ℤ◌, ◌≤ℤ◌, ◌<ℤ◌, refl}
use Rattle.std.specs.declared.cmp.Ordering.{Ordering}
use Rattle.std.specs.declared.cmp.Ordering.TheVariants.{Less, Equal, Greater}
use Rattle.std.specs.Ordering.{MatchOrdering, int_cmp, is_le, is_lt, ordering_reverse}
use Rattle.std.proofs.Common.{ap, arith, sym, true≢false, ◌∙◌}
use Rattle.std.proofs.lemmas.Cmp.{int_ranked, tied_itself}
use Rattle.std.proofs.lemmas.Int.{ints}
use Rattle.ratios.specs.Ratio.{Ratio, ◌≼◌, is_at_most, is_below, ratio_cmp, ratio_max, ratio_min}
use Rattle.ratios.proofs.Over.{IsOver, cross_from_whole, whole_from_cross}
use Rattle.ratios.proofs.Order.{ratio_cmp_total}

-- ---- whole numbers

whole_if_le : (a b : ℤ) (o : Ordering) → MatchOrdering o (a <ℤ b) (a ≡ b) (b <ℤ a) → is_le o ≡ true → a ≤ℤ b
whole_if_le a b Less m e = omega (arith, ints, m)
whole_if_le a b Equal m e = omega (arith, ints, m)
whole_if_le a b Greater m e = absurd (true≢false (sym e))

le_if_whole : (a b : ℤ) (o : Ordering) → MatchOrdering o (a <ℤ b) (a ≡ b) (b <ℤ a) → a ≤ℤ b → is_le o ≡ true
le_if_whole a b Less m h = refl
le_if_whole a b Equal m h = refl
le_if_whole a b Greater m h = absurd (omega (arith, ints, m, h))

-- ---- at most, by the cross products

pub cross_from_at_most : (q r : Ratio) → q ≼ r → (q.num *ℤ pos r.den) ≤ℤ (r.num *ℤ pos q.den)
cross_from_at_most q r e =
    let a = q.num *ℤ pos r.den in
    let b = r.num *ℤ pos q.den in
    whole_if_le a b (int_cmp a b) (int_ranked a b (int_cmp a b) refl) e

pub at_most_from_cross : (q r : Ratio) → (q.num *ℤ pos r.den) ≤ℤ (r.num *ℤ pos q.den) → q ≼ r
at_most_from_cross q r h =
    let a = q.num *ℤ pos r.den in
    let b = r.num *ℤ pos q.den in
    le_if_whole a b (int_cmp a b) (int_ranked a b (int_cmp a b) refl) h

-- over one denominator, ratios are ordered as their numerators are
pub le_over : (z y : ℤ) (d : ℕ) (q r : Ratio) → IsOver z d q → IsOver y d r → q ≼ r → z ≤ℤ y
le_over z y d q r h k e = whole_from_cross z y d q r h k (cross_from_at_most q r e)

pub over_le : (z y : ℤ) (d : ℕ) (q r : Ratio) → IsOver z d q → IsOver y d r → z ≤ℤ y → q ≼ r
over_le z y d q r h k e = at_most_from_cross q r (cross_from_whole z y d q r h k e)

-- ---- below

lt_reversed : (o : Ordering) → is_lt (ordering_reverse o) ≡ not (is_le o)
lt_reversed Less = refl
lt_reversed Equal = refl
lt_reversed Greater = refl

-- what is below r isn't at least r
pub below_is_not_at_least : (q r : Ratio) → is_below q r ≡ not (is_at_most r q)
below_is_not_at_least q r = ap is_lt (ratio_cmp_total.antisymm q r) ∙ lt_reversed (ratio_cmp r q)

le_if_lt : (o : Ordering) → is_lt o ≡ true → is_le o ≡ true
le_if_lt Less e = refl
le_if_lt Equal e = absurd (true≢false (sym e))
le_if_lt Greater e = absurd (true≢false (sym e))

pub at_most_if_below : (q r : Ratio) → is_below q r ≡ true → q ≼ r
at_most_if_below q r e = le_if_lt (ratio_cmp q r) e

le_of_reversed : (o : Ordering) → is_le o ≡ false → is_le (ordering_reverse o) ≡ true
le_of_reversed Less e = absurd (true≢false e)
le_of_reversed Equal e = absurd (true≢false e)
le_of_reversed Greater e = refl

-- what is not at most r is at least r
pub at_least_if_not_at_most : (q r : Ratio) → is_at_most q r ≡ false → r ≼ q
at_least_if_not_at_most q r e = ap is_le (ratio_cmp_total.antisymm r q) ∙ le_of_reversed (ratio_cmp q r) e

pub at_most_itself : (q : Ratio) → q ≼ q
at_most_itself q = ap is_le (tied_itself ratio_cmp_total q)

pub below_itself : (q : Ratio) → is_below q q ≡ false
below_itself q = ap is_lt (tied_itself ratio_cmp_total q)

-- ---- the greater and the less of one ratio twice

either_same : (b : Bool) (q : Ratio) → cond b q q ≡ q
either_same true q = refl
either_same false q = refl

pub ratio_max_itself : (q : Ratio) → ratio_max q q ≡ q
ratio_max_itself q = either_same (is_at_most q q) q

pub ratio_min_itself : (q : Ratio) → ratio_min q q ≡ q
ratio_min_itself q = either_same (is_at_most q q) q
