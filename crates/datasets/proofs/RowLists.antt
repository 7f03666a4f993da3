-- Which rows a list has, and rising lists of them.
use Rattle.std.specs.Prelude.{◌≡◌, Bool, true, false, cond, ◌&&◌, ◌||◌, filter, List, [], ◌∷◌, refl}
use Rattle.std.specs.List.{AllByRecursion}
use Rattle.std.specs.List.Sorted.{IsStrictlySortedBy}
use Rattle.std.specs.Ordering.{match_ordering}
use Rattle.std.specs.declared.cmp.Ordering.TheVariants.{Less, Equal, Greater}
use Rattle.std.proofs.Common.{sym, ap, subst, ◌∙◌}
use Rattle.std.proofs.Math.Bool.{and-false, or_assoc}
use Rattle.record_text.specs.Order.{row_cmp}
use Rattle.record_text.specs.OrderLaws.{row_tie, row_total}
use Rattle.datasets.specs.Dataset.{Dataset, rows, rows_of_either, with_row, with_rows}
use Rattle.datasets.specs.Entries.{AreRising, Row, has_row, same_row}
use Rattle.datasets.specs.Kept.{less_turned}
use Rattle.datasets.proofs.Members.{AllByRecursion-weaker}
use Rattle.datasets.proofs.Rows.{same_row-equal}

pub has_row-filter : (test : Row → Bool) (xs : List Row) (z : Row) → has_row (filter test xs) z ≡ (test z && has_row xs z)
has_row-filter test [] z = sym (and-false (test z))
has_row-filter test (x ∷ xs) z =
    elim (test x) as (λ b. test x ≡ b → has_row (cond b (x ∷ filter test xs) (filter test xs)) z ≡ (test z && (same_row z x || has_row xs z))) [
      | true ↦ λ p. ap (λ b. same_row z x || b) (has_row-filter test xs z) ∙ passes (same_row z x) (test z) (λ e. ap test (same_row-equal z x e) ∙ p)
      | false ↦ λ p. has_row-filter test xs z ∙ fails (same_row z x) (test z) (λ e. ap test (same_row-equal z x e) ∙ p)
    ] refl
  where
    passes : (a b : Bool) → (a ≡ true → b ≡ true) → (a || (b && has_row xs z)) ≡ (b && (a || has_row xs z))
    passes true b h = sym (ap (λ c. c && true) (h refl))
    passes false b h = refl

    fails : (a b : Bool) → (a ≡ true → b ≡ false) → (b && has_row xs z) ≡ (b && (a || has_row xs z))
    fails true b h = ap (λ c. c && has_row xs z) (h refl) ∙ sym (ap (λ c. c && true) (h refl))
    fails false b h = refl

or_twice : (a b : Bool) → (a || b) ≡ (a || (a || b))
or_twice true b = refl
or_twice false b = refl

or_swapped : (a b c : Bool) → (a || (b || c)) ≡ (b || (a || c))
or_swapped true true c = refl
or_swapped true false c = refl
or_swapped false b c = refl

pub has_row-with_row : (x : Row) (ys : List Row) (z : Row) → has_row (with_row x ys) z ≡ (same_row z x || has_row ys z)
has_row-with_row x [] z = refl
has_row-with_row x (y ∷ ys) z =
    elim (row_cmp x y) as (λ o. row_cmp x y ≡ o → has_row (match_ordering o (x ∷ y ∷ ys) (y ∷ ys) (y ∷ with_row x ys)) z ≡ (same_row z x || (same_row z y || has_row ys z))) [
      | Less ↦ λ p. refl
      | Equal ↦ λ p. subst (λ t. (same_row z y || has_row ys z) ≡ (same_row z t || (same_row z y || has_row ys z))) (sym (row_tie x y p)) (or_twice (same_row z y) (has_row ys z))
      | Greater ↦ λ p. ap (λ b. same_row z y || b) (has_row-with_row x ys z) ∙ or_swapped (same_row z y) (same_row z x) (has_row ys z)
    ] refl

pub has_row-with_rows : (xs ys : List Row) (z : Row) → has_row (with_rows xs ys) z ≡ (has_row xs z || has_row ys z)
has_row-with_rows [] ys z = refl
has_row-with_rows (x ∷ xs) ys z =
    has_row-with_row x (with_rows xs ys) z ∙ ap (λ b. same_row z x || b) (has_row-with_rows xs ys z) ∙ sym (or_assoc (same_row z x) (has_row xs z) (has_row ys z))

-- ---- what holds of the rows of two lists holds of the rows of either

pub AllByRecursion-with_row : (P : Row → Type 0) (x : Row) (ys : List Row) → P x → AllByRecursion P ys → AllByRecursion P (with_row x ys)
AllByRecursion-with_row P x [] p h = (p, tt)
AllByRecursion-with_row P x (y ∷ ys) p h =
    elim (row_cmp x y) as (λ o. AllByRecursion P (match_ordering o (x ∷ y ∷ ys) (y ∷ ys) (y ∷ with_row x ys))) [ Less ↦ (p, h) | Equal ↦ h | Greater ↦ (h.0, AllByRecursion-with_row P x ys p h.1) ]

pub AllByRecursion-with_rows : (P : Row → Type 0) (xs ys : List Row) → AllByRecursion P xs → AllByRecursion P ys → AllByRecursion P (with_rows xs ys)
AllByRecursion-with_rows P [] ys h k = k
AllByRecursion-with_rows P (x ∷ xs) ys h k = AllByRecursion-with_row P x (with_rows xs ys) h.0 (AllByRecursion-with_rows P xs ys h.1 k)

-- ---- they rise

AreRising-with_row : (x : Row) (ys : List Row) → AreRising ys → AreRising (with_row x ys)
unfolding IsStrictlySortedBy
AreRising-with_row x [] h = (tt, tt)
AreRising-with_row x (y ∷ ys) h =
    elim (row_cmp x y) as (λ o. row_cmp x y ≡ o → AreRising (match_ordering o (x ∷ y ∷ ys) (y ∷ ys) (y ∷ with_row x ys))) [
      | Less ↦ λ p. ((p, AllByRecursion-weaker (λ z. row_cmp y z ≡ Less) (λ z. row_cmp x z ≡ Less) ys (λ z. row_total.trans x y z p) h.0), h)
      | Equal ↦ λ p. h
      | Greater ↦ λ p. (AllByRecursion-with_row (λ z. row_cmp y z ≡ Less) x ys (less_turned x y p) h.0, AreRising-with_row x ys h.1)
    ] refl

pub AreRising-with_rows : (xs ys : List Row) → AreRising ys → AreRising (with_rows xs ys)
AreRising-with_rows [] ys h = h
AreRising-with_rows (x ∷ xs) ys h = AreRising-with_row x (with_rows xs ys) (AreRising-with_rows xs ys h)

pub AreRising-rows_of_either : (A B : Dataset) → AreRising (rows_of_either A B)
AreRising-rows_of_either A B = AreRising-with_rows (rows A) (rows B) B.rising
