-- The parts of a dataset by key, and datasets that are listed.
use Rattle.std.specs.Prelude.{◌≡◌, ◌≢◌, Bool, true, false, cond, ◌||◌, List, [], ◌∷◌, map, refl}
use Rattle.std.specs.List.{AllByRecursion}
use Rattle.std.specs.List.Sorted.{IsStrictlySortedBy}
use Rattle.std.specs.declared.cmp.Ordering.TheVariants.{Less}
use Rattle.std.proofs.Common.{sym, ap, subst, ◌∙◌, true≢false}
use Rattle.ratios.specs.Range.{InRange}
use Rattle.ratios.specs.Ratio.{Ratio, ratio_mul, one_ratio, zero_ratio}
use Rattle.ratios.proofs.Products.{ratio_mul_one, ratio_mul_zero, ratio_zero_mul}
use Rattle.record_text.specs.Order.{row_cmp}
use Rattle.datasets.specs.Dataset.{Dataset, at, rows, empty, set_at, dataset_of}
use Rattle.datasets.specs.Entries.{Row, Entries, AreRising, NoneZero, rows_of, has_row, is_zero, same_row, weight_in}
use Rattle.datasets.proofs.Equality.{same_weights, dataset_of-entries}
use Rattle.datasets.proofs.Rows.{different_if_less, same_row-equal, same_row-itself, same_row-turned, zero_if_is_zero, other_if_not_is_zero}
use Rattle.datasets.proofs.Weights.{at-dataset_of, at-empty, at-set_at, weight_in-cons}
use Rattle.weighted_set.specs.declared.weighted.Weighted.{Weighted}
use Rattle.weighted_set.specs.Changes.{entries_of}
use Rattle.weighted_set.specs.Held.{AllInRange}
use Rattle.weighted_set.specs.Parts.{FactoredInRange, IsListed, listed, part_of}

-- ---- rows of entries
-- x is below all of these rows
abbrev pub IsBelowRows : Row → List Row → Type 0
IsBelowRows x xs = AllByRecursion (λ y. row_cmp x y ≡ Less) xs

pub absent_below : (x : Row) (xs : List Row) → IsBelowRows x xs → has_row xs x ≡ false
absent_below x [] h = refl
absent_below x (y ∷ ys) h = ap (λ b. b || has_row ys x) (different_if_less x y h.0) ∙ absent_below x ys h.1

-- a row of entries without zeros has a weight other than 0
pub weight_in-present : (es : Entries) (x : Row) → NoneZero es → has_row (rows_of es) x ≡ true → weight_in es x ≢ zero_ratio
weight_in-present [] x n h z = true≢false (sym h)
weight_in-present (e ∷ es) x n h z =
    (elim (same_row x e.0) as (λ b. (b || has_row (rows_of es) x) ≡ true → cond b e.1 (weight_in es x) ≡ zero_ratio → ⊥) [ true ↦ λ _ k. n.0 k | false ↦ λ p k. weight_in-present es x n.1 p k ])
    h (sym (weight_in-cons x e es) ∙ z)

pub at-present : (A : Dataset) (x : Row) → has_row (rows A) x ≡ true → at A x ≢ zero_ratio
at-present A x h = weight_in-present A.entries x A.none_zero h

-- each entry's weight is its row's
weights_further : (e : Row × Ratio) (es fs : Entries) → IsBelowRows e.0 (rows_of fs) → AllByRecursion (λ f. f.1 ≡ weight_in es f.0) fs → AllByRecursion (λ f. f.1 ≡ weight_in (e ∷ es) f.0) fs
weights_further e es [] b h = tt
weights_further e es (f ∷ fs) b h = (
  h.0 ∙ sym (weight_in-cons f.0 e es ∙ ap (λ t. cond t e.1 (weight_in es f.0)) (same_row-turned f.0 e.0 ∙ different_if_less e.0 f.0 b.0)),
  weights_further e es fs b.1 h.1,
)

pub entries_have_weights : (es : Entries) → AreRising (rows_of es) → AllByRecursion (λ e. e.1 ≡ weight_in es e.0) es
unfolding IsStrictlySortedBy
entries_have_weights [] h = tt
entries_have_weights (e ∷ es) h = (sym (weight_in-cons e.0 e es ∙ ap (λ b. cond b e.1 (weight_in es e.0)) (same_row-itself e.0)), weights_further e es es h.0 (entries_have_weights es h.1))

-- ---- parts
abbrev factored : (Row → Dataset) → Row → Entries → Entries
factored keys k es = map (λ e. (e.0, ratio_mul e.1 (at (keys e.0) k))) es

part_weight : (keys : Row → Dataset) (k : Row) (es : Entries) (x : Row) → weight_in (factored keys k es) x ≡ ratio_mul (weight_in es x) (at (keys x) k)
part_weight keys k [] x = sym (ratio_zero_mul (at (keys x) k))
part_weight keys k (e ∷ es) x =
    let rest : weight_in (factored keys k es) x ≡ ratio_mul (weight_in es x) (at (keys x) k) = part_weight keys k es x in
    let first : same_row x e.0 ≡ true → ratio_mul e.1 (at (keys e.0) k) ≡ ratio_mul e.1 (at (keys x) k) = λ p. ap (λ y. ratio_mul e.1 (at (keys y) k)) (sym (same_row-equal x e.0 p)) in
    weight_in-cons x (e.0, ratio_mul e.1 (at (keys e.0) k)) (factored keys k es)
    ∙ chosen (same_row x e.0) (ratio_mul e.1 (at (keys e.0) k)) (weight_in (factored keys k es) x) e.1 (weight_in es x) (at (keys x) k) first rest
    ∙ ap (λ w. ratio_mul w (at (keys x) k)) (sym (weight_in-cons x e es))
  where
    chosen : (b : Bool) (p q w v f : Ratio) → (b ≡ true → p ≡ ratio_mul w f) → q ≡ ratio_mul v f → cond b p q ≡ ratio_mul (cond b w v) f
    chosen true p q w v f h k = h refl
    chosen false p q w v f h k = k

pub at-part_of : (keys : Row → Dataset) (k : Row) (A : Dataset) (x : Row) → at (part_of keys k A) x ≡ ratio_mul (at A x) (at (keys x) k)
at-part_of keys k A x = at-dataset_of (map (λ e. (e.0, ratio_mul e.1 (at (keys e.0) k))) A.entries) x ∙ part_weight keys k A.entries x

pub part_of-empty : (keys : Row → Dataset) (k : Row) → part_of keys k empty ≡ empty
part_of-empty keys k =
    same_weights (part_of keys k empty) empty (λ x.
    at-part_of keys k empty x ∙ ap (λ w. ratio_mul w (at (keys x) k)) (at-empty x) ∙ ratio_zero_mul (at (keys x) k) ∙ sym (at-empty x))

-- a row's weight, times its factor at the key, is set in the part of each key
pub part_of-set_at : (keys : Row → Dataset) (k x : Row) (w : Ratio) (A : Dataset) → part_of keys k (set_at x w A) ≡ set_at x (ratio_mul w (at (keys x) k)) (part_of keys k A)
part_of-set_at keys k x w A =
    same_weights (part_of keys k (set_at x w A)) (set_at x (ratio_mul w (at (keys x) k)) (part_of keys k A)) (λ y.
    at-part_of keys k (set_at x w A) y
    ∙ ap (λ v. ratio_mul v (at (keys y) k)) (at-set_at x w A y)
    ∙ chosen y (same_row y x) (same_row-equal y x)
    ∙ sym (at-set_at x (ratio_mul w (at (keys x) k)) (part_of keys k A) y))
  where
    chosen : (y : Row) (b : Bool) → (b ≡ true → y ≡ x) → ratio_mul (cond b w (at A y)) (at (keys y) k) ≡ cond b (ratio_mul w (at (keys x) k)) (at (part_of keys k A) y)
    chosen y true same = ap (λ z. ratio_mul w (at (keys z) k)) (same refl)
    chosen y false same = sym (at-part_of keys k A y)

-- weights in range stay there once factored, where each factor is 1
pub FactoredInRange-ones : (keys : Row → Dataset) → ((x k : Row) → at (keys x) k ≢ zero_ratio → at (keys x) k ≡ one_ratio) → InRange zero_ratio → (A : Dataset) → AllInRange A → FactoredInRange keys A
FactoredInRange-ones keys ones z A h x k =
    elim (is_zero (at (keys x) k)) as (λ b. is_zero (at (keys x) k) ≡ b → InRange (ratio_mul (at A x) (at (keys x) k))) [
      | true ↦ λ p. subst InRange (sym (ap (ratio_mul (at A x)) (zero_if_is_zero (at (keys x) k) p) ∙ ratio_mul_zero (at A x))) z
      | false ↦ λ p. subst InRange (sym (ap (ratio_mul (at A x)) (ones x k (other_if_not_is_zero (at (keys x) k) p)) ∙ ratio_mul_one (at A x))) (h x)
    ] refl

-- ---- lists of a dataset's entries
pub listed-entries : (list : List Weighted) (A : Dataset) → entries_of list ≡ A.entries → listed list ≡ A
listed-entries list A e = ap dataset_of e ∙ dataset_of-entries A

pub IsListed-entries : (list : List Weighted) (A : Dataset) → entries_of list ≡ A.entries → IsListed list
IsListed-entries list A e = ap (λ (B : Dataset). B.entries) (listed-entries list A e) ∙ sym e

-- what holds of two datasets holds of their lists, and the converse
pub on_listed : (P : Dataset → Dataset → Type 0) (left right : List Weighted) (A B : Dataset) → entries_of left ≡ A.entries → entries_of right ≡ B.entries → P A B → P (listed left) (listed right)
on_listed P left right A B e f h = subst (λ X. P X (listed right)) (sym (listed-entries left A e)) (subst (P A) (sym (listed-entries right B f)) h)

pub from_listed : (P : Dataset → Dataset → Type 0) (left right : List Weighted) (A B : Dataset) → entries_of left ≡ A.entries → entries_of right ≡ B.entries → P (listed left) (listed right) → P A B
from_listed P left right A B e f h = subst (λ X. P X B) (listed-entries left A e) (subst (P (listed left)) (listed-entries right B f) h)
