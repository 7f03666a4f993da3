-- Datasets with the same weights are equal.
use Rattle.std.specs.Prelude.{◌≡◌, ◌≢◌, Bool, true, false, cond, ◌&&◌, T, [], ◌∷◌, Option, Some, None, refl, unwrap_or}
use Rattle.std.specs.FinMap.Entries.{find, is_sorted, below_all, same_entries}
use Rattle.std.specs.List.Sorted.{IsStrictlySortedBy}
use Rattle.std.specs.Ordering.{is_lt}
use Rattle.std.proofs.Common.{sym, ap, subst, ◌∙◌}
use Rattle.ratios.specs.Ratio.{Ratio, zero_ratio}
use Rattle.record_text.specs.Order.{row_cmp}
use Rattle.record_text.specs.OrderLaws.{row_total, row_tie}
use Rattle.datasets.specs.Entries.{Row, same_row, Entries, rows_of, AreRising, NoneZero, weight_in}
use Rattle.datasets.specs.Kept.{IsBelow}
use Rattle.datasets.specs.Dataset.{Dataset, at, dataset_of}
use Rattle.datasets.specs.Code.{same_entries_same_dataset}
use Rattle.datasets.proofs.Weights.{weight_in-cons, at-dataset_of}

both : (a b : Bool) → T a → T b → T (a && b)
both true b p q = q
both false b p q = p

below_test : (x : Row) (es : Entries) → IsBelow x es → T (below_all row_cmp x es)
below_test x [] h = tt
below_test x (e ∷ es) h = both _ _ (subst (λ o. T (is_lt o)) (sym h.0) tt) (below_test x es h.1)

rising_test : (es : Entries) → AreRising (rows_of es) → T (is_sorted row_cmp es)
unfolding IsStrictlySortedBy
rising_test [] h = tt
rising_test (e ∷ es) h = both _ _ (below_test e.0 es h.0) (rising_test es h.1)

weight_found : (x : Row) (es : Entries) → weight_in es x ≡ unwrap_or (find row_cmp x es) zero_ratio
weight_found x [] = refl
weight_found x (e ∷ es) =
    weight_in-cons x e es
    ∙ elim (same_row x e.0) as (λ b. cond b e.1 (weight_in es x) ≡ unwrap_or (cond b (Some e.1) (find row_cmp x es)) zero_ratio) [ true ↦ refl | false ↦ weight_found x es ]

IfNotZero : Option Ratio → Type 0
IfNotZero None = Unit {0}
IfNotZero (Some w) = w ≢ zero_ratio

found_not_zero : (x : Row) (es : Entries) → NoneZero es → IfNotZero (find row_cmp x es)
unfolding IfNotZero
found_not_zero x [] h = tt
found_not_zero x (e ∷ es) h = elim (same_row x e.0) as (λ b. IfNotZero (cond b (Some e.1) (find row_cmp x es))) [ true ↦ h.0 | false ↦ found_not_zero x es h.1 ]

same_found : (a b : Option Ratio) → IfNotZero a → IfNotZero b → unwrap_or a zero_ratio ≡ unwrap_or b zero_ratio → a ≡ b
unfolding IfNotZero
same_found None None h k e = refl
same_found None (Some w) h k e = absurd (k (sym e))
same_found (Some v) None h k e = absurd (h e)
same_found (Some v) (Some w) h k e = ap Some e

same_weights_same_entries : (A B : Dataset) → ((x : Row) → at A x ≡ at B x) → A.entries ≡ B.entries
same_weights_same_entries A B h =
    same_entries row_cmp row_total row_tie A.entries B.entries (rising_test A.entries A.rising) (rising_test B.entries B.rising)
    (λ x. same_found _ _ (found_not_zero x A.entries A.none_zero) (found_not_zero x B.entries B.none_zero) (sym (weight_found x A.entries) ∙ h x ∙ weight_found x B.entries))

pub same_weights : (A B : Dataset) → ((x : Row) → at A x ≡ at B x) → A ≡ B
same_weights A B h = same_entries_same_dataset A B (same_weights_same_entries A B h)

pub dataset_of-entries : (A : Dataset) → dataset_of A.entries ≡ A
dataset_of-entries A = same_weights (dataset_of A.entries) A (at-dataset_of A.entries)
