-- Ratios above 0 and others: their greater, their less, and what is left of them.
use Rattle.std.specs.Prelude.{◌≡◌, true, false, cond, ◌&&◌, List, refl}
use Rattle.std.specs.List.{AllByRecursion}
use Rattle.std.specs.Ordering.{is_le, is_lt, ord_min, ordering_reverse}
use Rattle.std.specs.declared.cmp.Ordering.{Ordering}
use Rattle.std.specs.declared.cmp.Ordering.TheVariants.{Less, Equal, Greater}
use Rattle.std.proofs.Common.{sym, ap, ap₂, subst, ◌∙◌, true≢false}
use Rattle.std.proofs.lemmas.Bool.{and_right, false_from_ne_true}
use Rattle.std.proofs.lemmas.Cmp.{tied_itself}
use Rattle.ratios.specs.Ratio.{Ratio, is_at_most, is_below, ratio_cmp, ratio_max, ratio_min, ratio_sub, zero_ratio}
use Rattle.ratios.proofs.Order.{ratio_cmp_total, same_from_tie}
use Rattle.datasets.specs.Entries.{is_zero}
use Rattle.datasets.proofs.Rows.{is_zero-other}
use Rattle.op_shave.specs.Shavings.{left_of}

-- each of some ratios is above 0
abbrev pub AllAbove : List Ratio → Type 0
AllAbove fs = AllByRecursion (λ f. is_below zero_ratio f ≡ true) fs

-- ---- tests
less_from_test : (o : Ordering) → is_lt o ≡ true → o ≡ Less
less_from_test Less h = refl
less_from_test Equal h = absurd (true≢false (sym h))
less_from_test Greater h = absurd (true≢false (sym h))

le_if_lt : (o : Ordering) → is_lt o ≡ true → is_le o ≡ true
le_if_lt o h = ap is_le (less_from_test o h)

pub is_below-itself : (q : Ratio) → is_below q q ≡ false
is_below-itself q = ap is_lt (tied_itself ratio_cmp_total q)

below_at_most : (q r s : Ratio) → is_below q r ≡ true → is_at_most r s ≡ true → is_below q s ≡ true
below_at_most q r s h =
    elim (ratio_cmp r s) as (λ o. ratio_cmp r s ≡ o → is_le o ≡ true → is_below q s ≡ true) [
      | Less ↦ λ e k. ap is_lt (ratio_cmp_total.trans q r s (less_from_test (ratio_cmp q r) h) e)
      | Equal ↦ λ e k. subst (λ t. is_below q t ≡ true) (same_from_tie r s e) h
      | Greater ↦ λ e k. absurd (true≢false (sym k))
    ] refl

-- nothing above 0 is below what isn't
pub not_below : (w f : Ratio) → is_below zero_ratio w ≡ false → is_below zero_ratio f ≡ true → is_below f w ≡ false
not_below w f none above = false_from_ne_true (is_below f w) (λ h. true≢false (sym (below_at_most zero_ratio f w above (le_if_lt (ratio_cmp f w) h)) ∙ none))

pub above_not_zero : (q : Ratio) → is_below zero_ratio q ≡ true → is_zero q ≡ false
above_not_zero q above = is_zero-other q (λ e. true≢false (sym above ∙ ap (is_below zero_ratio) e ∙ is_below-itself zero_ratio))

-- ---- the greater and the less
pub ratio_max-above : (q : Ratio) → is_below zero_ratio q ≡ true → ratio_max zero_ratio q ≡ q
ratio_max-above q above = ap (λ b. cond b q zero_ratio) (le_if_lt (ratio_cmp zero_ratio q) above)

pub ratio_max-none : (q : Ratio) → is_below zero_ratio q ≡ false → ratio_max zero_ratio q ≡ zero_ratio
ratio_max-none q =
    elim (ratio_cmp zero_ratio q) as (λ o. ratio_cmp zero_ratio q ≡ o → is_lt o ≡ false → cond (is_le o) q zero_ratio ≡ zero_ratio) [
      | Less ↦ λ e k. absurd (true≢false k)
      | Equal ↦ λ e k. sym (same_from_tie zero_ratio q e)
      | Greater ↦ λ e k. refl
    ] refl

pub ratio_min-above : (f w : Ratio) → is_below zero_ratio f ≡ true → is_below zero_ratio w ≡ true → is_below zero_ratio (ratio_min f w) ≡ true
ratio_min-above f w h k = elim (is_at_most f w) as (λ b. is_below zero_ratio (cond b f w) ≡ true) [ true ↦ h | false ↦ k ]

pub ratio_min-none : (f w : Ratio) → is_below zero_ratio w ≡ false → is_below zero_ratio (ratio_min f w) ≡ false
ratio_min-none f w none =
    elim (is_at_most f w) as (λ b. is_at_most f w ≡ b → is_below zero_ratio (cond b f w) ≡ false) [
      | true ↦ λ e. false_from_ne_true (is_below zero_ratio f) (λ h. true≢false (sym (below_at_most zero_ratio f w h e) ∙ none))
      | false ↦ λ e. none
    ] refl

-- what `min` answers
pub ratio_min-is : (f w : Ratio) → ord_min ratio_cmp f w ≡ ratio_min f w
ratio_min-is f w = ap (λ o. cond (is_lt o) w f) (ratio_cmp_total.antisymm w f) ∙ turned (ratio_cmp f w)
  where
    turned : (o : Ordering) → cond (is_lt (ordering_reverse o)) w f ≡ cond (is_le o) f w
    turned Less = refl
    turned Equal = refl
    turned Greater = refl

-- ---- what is left
pub left_of-more : (w f : Ratio) → is_below zero_ratio w ≡ true → is_below f w ≡ true → left_of w f ≡ ratio_sub w f
left_of-more w f h k = ap₂ (λ a b. cond (a && b) (ratio_sub w f) zero_ratio) h k

pub left_of-taken : (w f : Ratio) → is_below f w ≡ false → left_of w f ≡ zero_ratio
left_of-taken w f k = ap (λ b. cond b (ratio_sub w f) zero_ratio) (and_right (is_below zero_ratio w) (is_below f w) k)

pub left_of-none : (w f : Ratio) → is_below zero_ratio w ≡ false → left_of w f ≡ zero_ratio
left_of-none w f h = ap (λ b. cond (b && is_below f w) (ratio_sub w f) zero_ratio) h
