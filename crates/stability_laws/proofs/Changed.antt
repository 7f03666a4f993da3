-- At a key and a threshold two groups differ only where a row with that key has the threshold between its
-- two weights.
use Rattle.std.specs.List.{AllByRecursion, list_any}
use Rattle.std.specs.Prelude.{◌≡◌, ◌&&◌, ◌++◌, Bool, true, false, List, [], ◌∷◌, refl}
use Rattle.std.proofs.Common.{sym, ap, ap₂, ◌∙◌}
use Rattle.std.proofs.Math.Bool.{and-false}
use Rattle.std.proofs.lemmas.Bool.{or_parts}
use Rattle.ratios.specs.Ratio.{Ratio, is_at_most, ratio_abs, ratio_add, ratio_sub, zero_ratio}
use Rattle.ratios.proofs.Additive.{abs_sub_same}
use Rattle.ratios.proofs.Field.{add_le, add_nonneg, apart_le_sum, le_trans, same_then}
use Rattle.ratios.proofs.Linear.{◌⊑◌}
use Rattle.ratios.proofs.Totals.{only, only_nonneg, total, total-add, total-any, total-le, total-nonneg, total-zero}
use Rattle.record_text.specs.declared.atom.Atom.{Atom}
use Rattle.datasets.specs.Dataset.{Dataset, at, rows_of_either}
use Rattle.datasets.specs.Entries.{AreRising, Row, has_row, same_row}
use Rattle.datasets.proofs.Covers.{Covers-first, Covers-second}
use Rattle.datasets.proofs.Members.{at-member}
use Rattle.datasets.proofs.Rising.{same_rising}
use Rattle.operators.specs.Operators.{part, top}
use Rattle.stability_laws.proofs.Between.{IsAboveZero, IsSound, between, differ, differ-itself}
use Rattle.stability_laws.proofs.Gathers.{total-given}
use Rattle.stability_laws.proofs.Groups.{AreRising-top, at-part, gives, gives_above, has_row-top}

-- ---- flags

none_flagged : {X : Type 0} (flag : X → Bool) (xs : List X) → list_any flag xs ≡ false → AllByRecursion (λ x. flag x ≡ false) xs
none_flagged flag [] none = tt
none_flagged flag (x ∷ xs) none = let p = or_parts (flag x) (list_any flag xs) none in (p.0, none_flagged flag xs p.1)

-- ---- the row that is given

-- rows give one row at the most
given_once : (reduce : List Row → Atom) (k : Row) (ys : List Row) (q : Ratio) (zs : List Row) → AreRising zs → zero_ratio ⊑ q → total (λ z. only (gives reduce k z ys) q) zs ⊑ q
given_once reduce k [] q zs rising h = same_then (total-zero (λ z. zero_ratio) zs (λ z. refl)) h
given_once reduce k (y ∷ ys) q zs rising h = total-given (k ++ reduce (y ∷ ys) ∷ []) q zs rising h

-- what two lists of rows give is no further apart than twice q
given_apart : (reduce : List Row → Atom) (k : Row) (xs ys : List Row) (q : Ratio) (zs : List Row) → AreRising zs → zero_ratio ⊑ q
    → total (λ z. ratio_abs (ratio_sub (only (gives reduce k z xs) q) (only (gives reduce k z ys) q))) zs ⊑ ratio_add q q
given_apart reduce k xs ys q zs rising h =
    let one : Row → Ratio = λ z. only (gives reduce k z xs) q in
    let other : Row → Ratio = λ z. only (gives reduce k z ys) q in
    le_trans (total-le (λ z. ratio_abs (ratio_sub (one z) (other z))) (λ z. ratio_add (one z) (other z)) zs (λ z. apart_le_sum (only_nonneg (gives reduce k z xs) h) (only_nonneg (gives reduce k z ys) h)))
    (same_then (total-add one other zs) (add_le (given_once reduce k xs q zs rising h) (given_once reduce k ys q zs rising h)))

-- ---- two worlds

module _ (key : Row → Row) (A B : Dataset) where
  -- x has the key k, and t is between its two weights
  abbrev pub is_changed : Row → Ratio → Row → Bool
  is_changed k t x = same_row k (key x) && between (at A x) (at B x) t

  -- no other row is changed than one of either
  changed_elsewhere : (k : Row) (t : Ratio) (x : Row) → has_row (rows_of_either A B) x ≡ false → is_changed k t x ≡ false
  changed_elsewhere k t x absent =
      ap₂ (λ a b. same_row k (key x) && between a b t) (Covers-first A B x absent) (Covers-second A B x absent)
      ∙ ap (λ b. same_row k (key x) && b) (differ-itself (is_at_most t zero_ratio)) ∙ and-false (same_row k (key x))

  none_changed : (k : Row) (t : Ratio) → list_any (is_changed k t) (rows_of_either A B) ≡ false → (x : Row) → is_changed k t x ≡ false
  none_changed k t none x =
      elim (has_row (rows_of_either A B) x) as (λ b. has_row (rows_of_either A B) x ≡ b → is_changed k t x ≡ false) [
        | true ↦ λ there. at-member (λ x. is_changed k t x ≡ false) (rows_of_either A B) x (none_flagged (is_changed k t) (rows_of_either A B) none) there
        | false ↦ λ absent. changed_elsewhere k t x absent
      ] refl

  -- where no row is changed, both have the same rows at or above the threshold
  same_tops : (k : Row) (t : Ratio) → IsAboveZero t → ((x : Row) → is_changed k t x ≡ false) → top (part key k A) t ≡ top (part key k B) t
  same_tops k t above none =
      same_rising (top (part key k A) t) (top (part key k B) t) (AreRising-top (part key k A) t) (AreRising-top (part key k B) t)
      (λ z. has_row-top (part key k A) t z above ∙ ap (is_at_most t) (at-part key A k z) ∙ same z (same_row k (key z)) (none z)
      ∙ sym (has_row-top (part key k B) t z above ∙ ap (is_at_most t) (at-part key B k z)))
    where
      same_tests : (a b : Bool) → differ a b ≡ false → a ≡ b
      same_tests true true e = refl
      same_tests true false e = e
      same_tests false b e = sym e

      same : (z : Row) (b : Bool) → (b && between (at A z) (at B z) t) ≡ false → is_at_most t (only b (at A z)) ≡ is_at_most t (only b (at B z))
      same z true e = same_tests (is_at_most t (at A z)) (is_at_most t (at B z)) e
      same z false e = refl

  module _ (reduce : List Row → Atom) where
    -- how far apart the two groups are at z by this key and threshold
    abbrev pub gap_at : Row → Ratio × Ratio → Row → Ratio
    gap_at k c z = ratio_abs (ratio_sub (only (gives_above key reduce A k z c.0) c.1) (only (gives_above key reduce B k z c.0) c.1))

    pub gaps_le_changes : (k : Row) (c : Ratio × Ratio) (zs : List Row) → IsSound c → AreRising zs → total (gap_at k c) zs ⊑ total (λ x. only (is_changed k c.0 x) (ratio_add c.1 c.1)) (rows_of_either A B)
    gaps_le_changes k c zs sound rising =
        elim (list_any (is_changed k c.0) xs) as (λ b. list_any (is_changed k c.0) xs ≡ b → total (gap_at k c) zs ⊑ total (λ x. only (is_changed k c.0 x) twice) xs) [
          | true ↦ λ any. le_trans (given_apart reduce k (top (part key k A) c.0) (top (part key k B) c.0) c.1 zs rising sound.1) (total-any (is_changed k c.0) twice xs twice_nonneg any)
          | false ↦ λ none.
              same_then (total-zero (gap_at k c) zs (λ z. abs_sub_same (ap (λ ys. only (gives reduce k z ys) c.1) (same_tops k c.0 sound.0 (none_changed k c.0 none)))))
              (total-nonneg (λ x. only (is_changed k c.0 x) twice) xs (λ x. only_nonneg (is_changed k c.0 x) twice_nonneg))
        ] refl
      where
        xs : List Row
        xs = rows_of_either A B

        twice : Ratio
        twice = ratio_add c.1 c.1

        twice_nonneg : zero_ratio ⊑ twice
        twice_nonneg = add_nonneg sound.1 sound.1
