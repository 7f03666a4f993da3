-- Laws of the distance of two datasets.
use Rattle.std.specs.Prelude.{◌≡◌, ◌≢◌, ◌↔◌, ◌&&◌, Bool, true, false, filter, List, [], ◌∷◌, refl}
use Rattle.std.specs.List.{AllByRecursion}
use Rattle.std.specs.Ordering.{is_ne}
use Rattle.std.specs.declared.cmp.Ordering.TheVariants.{Less, Equal, Greater}
use Rattle.std.proofs.Common.{sym, ap, ap₂, subst, true≢false, ◌∙◌}
use Rattle.std.proofs.lemmas.Bool.{and_from, and_parts}
use Rattle.std.proofs.lemmas.Cmp.{tied_itself}
use Rattle.std.proofs.lemmas.List.Kept.{IsStrictlySortedBy-filter}
use Rattle.ratios.specs.Ratio.{Ratio, ratio_abs, ratio_add, ratio_cmp, ratio_sub, zero_ratio}
use Rattle.ratios.proofs.Additive.{abs_sub_same, ratio_abs_sub_comm, same_from_sub_zero, sub_zero, zero_from_abs}
use Rattle.ratios.proofs.Field.{abs_apart, abs_nonneg, le_then, le_trans, same_then, triangle}
use Rattle.ratios.proofs.Linear.{◌⊑◌}
use Rattle.ratios.proofs.Order.{ratio_cmp_total, same_from_tie}
use Rattle.ratios.proofs.Totals.{total, total-add, total-apart, total-le, total-nonneg, total-same, total-zero, total-zero_each}
use Rattle.record_text.specs.Order.{row_cmp}
use Rattle.datasets.specs.Dataset.{Dataset, apart, at, differing, dist, empty, norm, rows, rows_of_either}
use Rattle.datasets.specs.Entries.{AreRising, Row, has_row}
use Rattle.datasets.proofs.Covers.{Covers-first, Covers-rows_of_all, Covers-second, AreRising-rows_of_all, dist-cover, dist-over, norm-cover, norm-rows, rows_of_all}
use Rattle.datasets.proofs.Equality.{same_weights}
use Rattle.datasets.proofs.Members.{at-member}
use Rattle.datasets.proofs.RowLists.{AreRising-rows_of_either, has_row-filter}
use Rattle.datasets.proofs.Weights.{at-absent, at-empty}

pub dist-nonneg : (A B : Dataset) → zero_ratio ⊑ dist A B
dist-nonneg A B = total-nonneg (apart A B) (rows_of_either A B) (λ x. abs_nonneg (ratio_sub (at A x) (at B x)))

pub dist-comm : (A B : Dataset) → dist A B ≡ dist B A
dist-comm A B =
    dist-cover A B (rows_of_either B A) (AreRising-rows_of_either B A) (Covers-second B A) (Covers-first B A)
    ∙ total-same (apart A B) (apart B A) (rows_of_either B A) (λ x. ratio_abs_sub_comm (at A x) (at B x))

pub dist-triangle : (A B C : Dataset) → dist A C ⊑ ratio_add (dist A B) (dist B C)
dist-triangle A B C =
    let ws = rows_of_all (A ∷ B ∷ C ∷ []) in
    let r = AreRising-rows_of_all (A ∷ B ∷ C ∷ []) in
    let h = Covers-rows_of_all (A ∷ B ∷ C ∷ []) in
    same_then (dist-cover A C ws r h.0 h.1.1.0)
    (le_then (total-le (apart A C) (λ x. ratio_add (apart A B x) (apart B C x)) ws (λ x. triangle (at A x) (at B x) (at C x)))
    (total-add (apart A B) (apart B C) ws ∙ sym (ap₂ ratio_add (dist-cover A B ws r h.0 h.1.0) (dist-cover B C ws r h.1.0 h.1.1.0))))

pub norm-nonneg : (A : Dataset) → zero_ratio ⊑ norm A
norm-nonneg A = le_then (total-nonneg (λ x. ratio_abs (at A x)) (rows A) (λ x. abs_nonneg (at A x))) (sym (norm-rows A))

-- two norms are no further apart than the datasets
pub norm-apart : (A B : Dataset) → ratio_abs (ratio_sub (norm A) (norm B)) ⊑ dist A B
norm-apart A B =
    let ws = rows_of_either A B in
    let r = AreRising-rows_of_either A B in
    same_then (ap₂ (λ p q. ratio_abs (ratio_sub p q)) (norm-cover A ws r (Covers-first A B)) (norm-cover B ws r (Covers-second A B)))
    (le_trans (total-apart (λ x. ratio_abs (at A x)) (λ x. ratio_abs (at B x)) ws)
    (total-le (λ x. ratio_abs (ratio_sub (ratio_abs (at A x)) (ratio_abs (at B x)))) (apart A B) ws (λ x. abs_apart (at A x) (at B x))))

-- ---- to the empty dataset, the distance is the norm

pub dist-empty : (A : Dataset) → dist A empty ≡ norm A
dist-empty A =
    dist-cover A empty (rows A) A.rising (at-absent A) (λ x e. at-empty x)
    ∙ total-same (apart A empty) (λ x. ratio_abs (at A x)) (rows A) (λ x. ap ratio_abs (ap (ratio_sub (at A x)) (at-empty x) ∙ sub_zero (at A x)))
    ∙ sym (norm-rows A)

-- ---- only equal datasets are at no distance

pub dist-itself : (A : Dataset) → dist A A ≡ zero_ratio
dist-itself A = total-zero (apart A A) (rows_of_either A A) (λ x. abs_sub_same (same_weight x))
  where
    same_weight : (x : Row) → at A x ≡ at A x
    same_weight x = refl

same_from_apart : (A B : Dataset) (x : Row) → apart A B x ≡ zero_ratio → at A x ≡ at B x
same_from_apart A B x e = same_from_sub_zero (at A x) (at B x) (zero_from_abs (ratio_sub (at A x) (at B x)) e)

pub same_from_no_dist : (A B : Dataset) → dist A B ≡ zero_ratio → A ≡ B
same_from_no_dist A B e = same_weights A B (λ x. elim (has_row (rows_of_either A B) x) as (λ b. has_row (rows_of_either A B) x ≡ b → at A x ≡ at B x) [
  | true ↦ λ there. same_from_apart A B x (at-member (λ x. apart A B x ≡ zero_ratio) (rows_of_either A B) x each there)
  | false ↦ λ absent. Covers-first A B x absent ∙ sym (Covers-second A B x absent)
] refl)
  where
    each : AllByRecursion (λ x. apart A B x ≡ zero_ratio) (rows_of_either A B)
    each = total-zero_each (apart A B) (rows_of_either A B) (λ x. abs_nonneg (ratio_sub (at A x) (at B x))) e

pub dist-zero : (A B : Dataset) → (dist A B ≡ zero_ratio) ↔ (A ≡ B)
dist-zero A B = (same_from_no_dist A B, λ e. subst (λ (C : Dataset). dist A C ≡ zero_ratio) e (dist-itself A))

-- ---- the rows at which two datasets differ

ne_if_other : (q r : Ratio) → q ≢ r → is_ne (ratio_cmp q r) ≡ true
ne_if_other q r n = elim (ratio_cmp q r) as (λ o. ratio_cmp q r ≡ o → is_ne o ≡ true) [ Less ↦ λ e. refl | Equal ↦ λ e. absurd (n (same_from_tie q r e)) | Greater ↦ λ e. refl ] refl

other_if_ne : (q r : Ratio) → is_ne (ratio_cmp q r) ≡ true → q ≢ r
other_if_ne q r h e = true≢false (sym h ∙ ap is_ne (ap (λ t. ratio_cmp t r) e ∙ tied_itself ratio_cmp_total r))

pub AreRising-differing : (A B : Dataset) → AreRising (differing A B)
AreRising-differing A B = IsStrictlySortedBy-filter row_cmp (λ x. is_ne (ratio_cmp (at A x) (at B x))) (rows_of_either A B) (AreRising-rows_of_either A B)

pub differing-are : (A B : Dataset) (x : Row) → (has_row (differing A B) x ≡ true) ↔ (at A x ≢ at B x)
differing-are A B x = (λ h. other_if_ne (at A x) (at B x) (and_parts (is_other x) _ (sym found ∙ h)).0, λ n. found ∙ and_from (is_other x) (has_row (rows_of_either A B) x) (ne_if_other (at A x) (at B x) n) (there n))
  where
    is_other : Row → Bool
    is_other x = is_ne (ratio_cmp (at A x) (at B x))

    found : has_row (differing A B) x ≡ (is_ne (ratio_cmp (at A x) (at B x)) && has_row (rows_of_either A B) x)
    found = has_row-filter (λ x. is_ne (ratio_cmp (at A x) (at B x))) (rows_of_either A B) x

    there : at A x ≢ at B x → has_row (rows_of_either A B) x ≡ true
    there n = elim (has_row (rows_of_either A B) x) as (λ b. has_row (rows_of_either A B) x ≡ b → b ≡ true) [ true ↦ λ e. refl | false ↦ λ e. absurd (n (Covers-first A B x e ∙ sym (Covers-second A B x e))) ] refl
