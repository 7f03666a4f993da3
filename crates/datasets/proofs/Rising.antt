-- Rising rows, and which lists of them are equal.
use Rattle.std.specs.List.{AllByRecursion}
use Rattle.std.specs.List.Sorted.{IsStrictlySortedBy}
use Rattle.std.specs.Prelude.{◌≡◌, ◌||◌, true, false, List, [], ◌∷◌, refl}
use Rattle.std.specs.declared.cmp.Ordering.TheVariants.{Less, Equal, Greater}
use Rattle.std.proofs.Common.{sym, ap, ap₂, ◌∙◌, true≢false}
use Rattle.record_text.specs.Order.{row_cmp}
use Rattle.record_text.specs.OrderLaws.{row_tie, row_total}
use Rattle.datasets.specs.Entries.{AreRising, Row, has_row, same_row}
use Rattle.datasets.specs.Kept.{less_turned}
use Rattle.datasets.proofs.Members.{AllByRecursion-weaker}
use Rattle.datasets.proofs.Rows.{different_if_less, same_row-equal, same_row-itself}

-- x is below each of these rows
abbrev IsBefore : Row → List Row → Type 0
IsBefore x ys = AllByRecursion (λ y. row_cmp x y ≡ Less) ys

pub rising_first : (x : Row) (xs : List Row) → AreRising (x ∷ xs) → AllByRecursion (λ y. row_cmp x y ≡ Less) xs
unfolding IsStrictlySortedBy
rising_first x xs h = h.0

pub rising_rest : (x : Row) (xs : List Row) → AreRising (x ∷ xs) → AreRising xs
unfolding IsStrictlySortedBy
rising_rest x xs h = h.1

pub AreRising-none : AreRising []
unfolding IsStrictlySortedBy
AreRising-none = tt

further : (x y : Row) (ys : List Row) → row_cmp x y ≡ Less → IsBefore y ys → IsBefore x ys
further x y ys p h = AllByRecursion-weaker (λ z. row_cmp y z ≡ Less) (λ z. row_cmp x z ≡ Less) ys (λ z q. row_total.trans x y z p q) h

-- ---- which rows they have

absent_before : (x : Row) (ys : List Row) → IsBefore x ys → has_row ys x ≡ false
absent_before x [] h = refl
absent_before x (y ∷ ys) h = ap (λ b. b || has_row ys x) (different_if_less x y h.0) ∙ absent_before x ys h.1

pub has_first : (x : Row) (xs : List Row) → has_row (x ∷ xs) x ≡ true
has_first x xs = ap (λ b. b || has_row xs x) (same_row-itself x)

-- a list that has no row is empty
pub none_there : (xs : List Row) → ((z : Row) → has_row xs z ≡ false) → xs ≡ []
none_there [] h = refl
none_there (x ∷ xs) h = absurd (true≢false (sym (has_first x xs) ∙ h x))

not_before : (x y : Row) (xs ys : List Row) → AreRising (y ∷ ys) → row_cmp x y ≡ Less → has_row (x ∷ xs) x ≡ has_row (y ∷ ys) x → ⊥
not_before x y xs ys rising p h = true≢false (sym (has_first x xs) ∙ h ∙ absent_before x (y ∷ ys) (p, further x y ys p (rising_first y ys rising)))

-- rising lists with the same rows are equal
pub same_rising : (xs ys : List Row) → AreRising xs → AreRising ys → ((z : Row) → has_row xs z ≡ has_row ys z) → xs ≡ ys
same_rising [] ys rx ry h = sym (none_there ys (λ z. sym (h z)))
same_rising (x ∷ xs) [] rx ry h = none_there (x ∷ xs) h
same_rising (x ∷ xs) (y ∷ ys) rx ry h =
    ap₂ (λ z zs. z ∷ zs) first_same (same_rising xs ys (rising_rest x xs rx) (rising_rest y ys ry) rest_same)
  where
    first_same : x ≡ y
    first_same = elim (row_cmp x y) as (λ o. row_cmp x y ≡ o → x ≡ y) [
      | Less ↦ λ p. absurd (not_before x y xs ys ry p (h x))
      | Equal ↦ λ p. row_tie x y p
      | Greater ↦ λ p. absurd (not_before y x ys xs rx (less_turned x y p) (sym (h y)))
    ] refl

    rest_same : (z : Row) → has_row xs z ≡ has_row ys z
    rest_same z =
        elim (same_row z x) as (λ b. same_row z x ≡ b → (b || has_row xs z) ≡ (same_row z y || has_row ys z) → has_row xs z ≡ has_row ys z) [
          | true ↦ λ e k.
              let is_x = same_row-equal z x e in
              ap (has_row xs) is_x ∙ absent_before x xs (rising_first x xs rx) ∙ sym (ap (has_row ys) (is_x ∙ first_same) ∙ absent_before y ys (rising_first y ys ry))
          | false ↦ λ e k. k ∙ ap (λ b. b || has_row ys z) (sym (ap (same_row z) first_same) ∙ e)
        ] refl (h z)
