-- Rows that tie are one, and the one ratio of numerator 0 is 0.
use Rattle.std.specs.Prelude.{◌≡◌, ℤ, pos, ◌*ℤ◌, ℕ, true, false, refl}
use Rattle.std.specs.FinMap.{int_cmp-IsAntisymmetric}
use Rattle.std.specs.Ordering.{int_cmp, int_eq, is_eq, ordering_reverse}
use Rattle.std.specs.declared.cmp.Ordering.{Ordering}
use Rattle.std.specs.declared.cmp.Ordering.TheVariants.{Less, Equal, Greater}
use Rattle.std.proofs.Common.{sym, ap, ◌∙◌, true≢false, arith}
use Rattle.std.proofs.lemmas.Bool.{false_from_ne_true}
use Rattle.std.proofs.lemmas.Cmp.{tied_itself}
use Rattle.std.proofs.lemmas.Int.{ints}
use Rattle.ratios.specs.Ratio.{Ratio, zero_ratio}
use Rattle.ratios.proofs.Order.{tie_from_test}
use Rattle.ratios.proofs.Over.{same_cross}
use Rattle.record_text.specs.Order.{row_cmp}
use Rattle.record_text.specs.OrderLaws.{row_total, row_tie}
use Rattle.datasets.specs.Entries.{Row, same_row, is_zero}
use Rattle.datasets.specs.Kept.{is_zero-zero_ratio}

-- ---- rows
pub same_row-equal : (x y : Row) → same_row x y ≡ true → x ≡ y
same_row-equal x y e = row_tie x y (tie_from_test (row_cmp x y) e)

pub same_row-itself : (x : Row) → same_row x x ≡ true
same_row-itself x = ap is_eq (tied_itself row_total x)

turned_test : (o : Ordering) → is_eq (ordering_reverse o) ≡ is_eq o
turned_test Less = refl
turned_test Equal = refl
turned_test Greater = refl

pub same_row-turned : (x y : Row) → same_row x y ≡ same_row y x
same_row-turned x y = ap is_eq (row_total.antisymm x y) ∙ turned_test (row_cmp y x)

pub different_if_less : (x y : Row) → row_cmp x y ≡ Less → same_row x y ≡ false
different_if_less x y p = ap is_eq p

pub different_if_greater : (x y : Row) → row_cmp x y ≡ Greater → same_row x y ≡ false
different_if_greater x y p = ap is_eq p

-- ---- 0
whole_zero : (n : ℤ) → int_eq n (pos 0) ≡ true → n ≡ pos 0
whole_zero n e = int_cmp-IsAntisymmetric n (pos 0) (tie_from_test (int_cmp n (pos 0)) e)

zero_num : zero_ratio.num ≡ pos 0
unfolding zero_ratio
zero_num = refl

zero_cross : (n m : ℤ) (a b : ℕ) → n ≡ pos 0 → m ≡ pos 0 → n *ℤ pos a ≡ m *ℤ pos b
zero_cross n m a b e f = rw (e, f) (omega (arith, ints))

pub zero_if_is_zero : (q : Ratio) → is_zero q ≡ true → q ≡ zero_ratio
zero_if_is_zero q e = same_cross q zero_ratio (zero_cross q.num zero_ratio.num zero_ratio.den q.den (whole_zero q.num e) zero_num)

-- a ratio other than 0 fails the test, and one that fails it is not 0
pub is_zero-other : (q : Ratio) → (q ≡ zero_ratio → ⊥) → is_zero q ≡ false
is_zero-other q n = false_from_ne_true (is_zero q) (λ e. n (zero_if_is_zero q e))

pub other_if_not_is_zero : (q : Ratio) → is_zero q ≡ false → q ≡ zero_ratio → ⊥
other_if_not_is_zero q f e = true≢false (sym is_zero-zero_ratio ∙ ap is_zero (sym e) ∙ f)
