-- Sums over rising rows: what one row picks, and that rows at which a summand is 0 don't count.
use Rattle.std.specs.Prelude.{◌≡◌, ◌||◌, true, false, List, [], ◌∷◌, refl}
use Rattle.std.specs.List.{AllByRecursion}
use Rattle.std.specs.List.Sorted.{IsStrictlySortedBy}
use Rattle.std.specs.declared.cmp.Ordering.TheVariants.{Less}
use Rattle.std.proofs.Common.{sym, ap, ap₂, subst, ◌∙◌}
use Rattle.ratios.specs.Ratio.{Ratio, ratio_add, zero_ratio}
use Rattle.ratios.proofs.Additive.{ratio_add_zero, ratio_zero_add}
use Rattle.ratios.proofs.Totals.{only, total, total-cons, total-same, total-swap, total-zero_all}
use Rattle.record_text.specs.Order.{row_cmp}
use Rattle.datasets.specs.Entries.{AreRising, Row, has_row, same_row}
use Rattle.datasets.proofs.Members.{AllByRecursion-weaker}
use Rattle.datasets.proofs.Rows.{different_if_less, same_row-equal, same_row-turned}

-- ---- what one row picks

picks_nothing : (x y : Row) (f : Row → Ratio) (ys : List Row) → same_row x y ≡ true → AllByRecursion (λ z. row_cmp y z ≡ Less) ys → total (λ z. only (same_row x z) (f z)) ys ≡ zero_ratio
picks_nothing x y f ys e h =
    total-zero_all (λ z. only (same_row x z) (f z)) ys
    (AllByRecursion-weaker (λ z. row_cmp y z ≡ Less) (λ z. only (same_row x z) (f z) ≡ zero_ratio) ys
    (λ z less. ap (λ b. only b (f z)) (subst (λ t. same_row t z ≡ false) (sym (same_row-equal x y e)) (different_if_less y z less))) h)

absent_above : (x y : Row) (ys : List Row) → same_row x y ≡ true → AllByRecursion (λ z. row_cmp y z ≡ Less) ys → has_row ys x ≡ false
absent_above x y [] e h = refl
absent_above x y (z ∷ zs) e h =
    ap₂ (λ a b. a || b) (subst (λ t. same_row t z ≡ false) (sym (same_row-equal x y e)) (different_if_less y z h.0)) (absent_above x y zs e h.1)

-- of rising rows, the row x picks itself
pub total-pick : (x : Row) (f : Row → Ratio) (ys : List Row) → AreRising ys → total (λ y. only (same_row x y) (f y)) ys ≡ only (has_row ys x) (f x)
unfolding IsStrictlySortedBy
total-pick x f [] h = refl
total-pick x f (y ∷ ys) h =
    total-cons (λ y. only (same_row x y) (f y)) y ys
    ∙ elim (same_row x y) as (λ b. same_row x y ≡ b → ratio_add (only b (f y)) (total (λ y. only (same_row x y) (f y)) ys) ≡ only (b || has_row ys x) (f x)) [
      | true ↦ λ e. ap (ratio_add (f y)) (picks_nothing x y f ys e h.0) ∙ ratio_add_zero (f y) ∙ ap f (sym (same_row-equal x y e))
      | false ↦ λ e. ap (ratio_add zero_ratio) (total-pick x f ys h.1) ∙ ratio_zero_add (only (has_row ys x) (f x))
    ] refl

-- ---- rows that don't count

-- f is 0 at what is not in the list
abbrev pub IsWithin : List Row → (Row → Ratio) → Type 0
IsWithin xs f = (x : Row) → has_row xs x ≡ false → f x ≡ zero_ratio

picked : (f : Row → Ratio) (ys : List Row) (x : Row) → IsWithin ys f → only (has_row ys x) (f x) ≡ f x
picked f ys x h = elim (has_row ys x) as (λ b. has_row ys x ≡ b → only b (f x) ≡ f x) [ true ↦ λ e. refl | false ↦ λ e. sym (h x e) ] refl

-- two lists of rising rows sum alike, where f is 0 off each of them
pub total-within : (f : Row → Ratio) (xs ys : List Row) → AreRising xs → AreRising ys → IsWithin xs f → IsWithin ys f → total f xs ≡ total f ys
total-within f xs ys r s h k =
    total-same f (λ x. total (λ y. only (same_row x y) (f y)) ys) xs (λ x. sym (total-pick x f ys s ∙ picked f ys x k))
    ∙ total-swap (λ x y. only (same_row x y) (f y)) xs ys
    ∙ total-same (λ y. total (λ x. only (same_row x y) (f y)) xs) f ys
    (λ y. total-same (λ x. only (same_row x y) (f y)) (λ x. only (same_row y x) (f x)) xs (λ x. turned x y) ∙ total-pick y f xs r ∙ picked f xs y h)
  where
    turned : (x y : Row) → only (same_row x y) (f y) ≡ only (same_row y x) (f x)
    turned x y =
        ap (λ b. only b (f y)) (same_row-turned x y)
        ∙ elim (same_row y x) as (λ b. same_row y x ≡ b → only b (f y) ≡ only b (f x)) [ true ↦ λ e. ap f (same_row-equal y x e) | false ↦ λ e. refl ] refl
