-- The terms of an output row of a group are those of one key's part.
use Rattle.std.specs.Prelude.{◌-◌, ◌≡◌, ◌≢◌, Bool, true, false, ◌||◌, cond, flat_map, List, [], ◌∷◌, ◌++◌, length, map, take, refl}
use Rattle.std.specs.List.{AllByRecursion}
use Rattle.std.proofs.Common.{arith, sym, ap, ap₂, ◌∙◌, true≢false}
use Rattle.std.proofs.Math.Seq.{take-append_seam}
use Rattle.std.proofs.lemmas.Bool.{or_parts}
use Rattle.std.proofs.lemmas.List.{append-nil, length-append}
use Rattle.ratios.specs.Ratio.{Ratio, zero_ratio}
use Rattle.record_text.specs.declared.atom.Atom.{Atom}
use Rattle.datasets.specs.Dataset.{Dataset, at, empty, rows}
use Rattle.datasets.specs.Entries.{AreRising, Row, has_row, same_row}
use Rattle.datasets.proofs.Equality.{same_weights}
use Rattle.datasets.proofs.Members.{AllByRecursion-everywhere, at-member}
use Rattle.datasets.proofs.Rising.{AreRising-none, rising_first, rising_rest}
use Rattle.datasets.proofs.RowLists.{AreRising-with_rows, has_row-with_rows}
use Rattle.datasets.proofs.Rows.{same_row-equal, same_row-itself}
use Rattle.datasets.proofs.Weights.{at-absent, at-empty}
use Rattle.operators.specs.Operators.{group_row, group_terms, half_gap, keys, levels, part, top}
use Rattle.operators.specs.Weights.{pairs, weights_for}
use Rattle.operators.proofs.Elsewhere.{weights_for-none}
use Rattle.operators.proofs.Gathered.{weights_for-append, weights_for-map}
use Rattle.operators.proofs.Tabulated.{at-filtered}
use Rattle.weighted_set.proofs.Parts.{absent_below}
use Rattle.level_walks.specs.Levels.{key_of, level_row, level_weight, part_terms}

-- ---- lists over pairs

weights_for-pairs : {X Y : Type 0} (row : X × Y → Row) (weight : X × Y → Ratio) (f : X → List Y) (xs : List X) (z : Row) →
    weights_for row weight (pairs xs f) z ≡ flat_map (λ x. weights_for (λ y. row (x, y)) (λ y. weight (x, y)) (f x) z) xs
weights_for-pairs row weight f [] z = refl
weights_for-pairs row weight f (x ∷ xs) z =
    weights_for-append row weight (map (λ y. (x, y)) (f x)) (pairs xs f) z
    ∙ ap₂ (λ us vs. us ++ vs) (weights_for-map row weight (λ y. (x, y)) (f x) z) (weights_for-pairs row weight f xs z)

-- what one row alone gives, of rows that don't have it and of rising rows
module _ {X : Type 0} (give : Row → List X) (y : Row) (other : (x : Row) → same_row y x ≡ false → give x ≡ []) where
  none_given : (xs : List Row) → has_row xs y ≡ false → flat_map give xs ≡ []
  none_given [] absent = refl
  none_given (x ∷ xs) absent = let p = or_parts (same_row y x) (has_row xs y) absent in ap₂ (λ us vs. us ++ vs) (other x p.0) (none_given xs p.1)

  given_once : (xs : List Row) → AreRising xs → flat_map give xs ≡ cond (has_row xs y) (give y) []
  given_once [] rising = refl
  given_once (x ∷ xs) rising =
      elim (same_row y x) as (λ b. same_row y x ≡ b → (give x ++ flat_map give xs) ≡ cond (b || has_row xs y) (give y) []) [
        | true ↦ λ e.
            let same = same_row-equal y x e in
            let absent = ap (has_row xs) same ∙ absent_below x xs (rising_first x xs rising) in
            ap (λ vs. give x ++ vs) (none_given xs absent) ∙ append-nil (give x) ∙ ap give (sym same)
        | false ↦ λ e. ap (λ us. us ++ flat_map give xs) (other x e) ∙ given_once xs (rising_rest x xs rising)
      ] refl

-- ---- the rows of one key

pub key_of-level : (k : Row) (a : Atom) → key_of (k ++ a ∷ []) ≡ k
key_of-level k a =
    let n : length (k ++ a ∷ []) - 1 ≡ length k = omega (arith, length-append k (a ∷ [])) in
    ap (λ n. take n (k ++ a ∷ [])) n ∙ take-append_seam k (a ∷ [])

-- a level of another key gives no row of this one
pub other_key : {X : Type 0} (k : Row) (atom : X → Atom) (weight : X → Ratio) (xs : List X) (z : Row) → same_row (key_of z) k ≡ false → weights_for (λ x. k ++ atom x ∷ []) weight xs z ≡ []
other_key k atom weight xs z other =
    weights_for-none (λ x. k ++ atom x ∷ []) weight xs z (AllByRecursion-everywhere (λ x. z ≢ (k ++ atom x ∷ [])) xs (λ x e.
    let own : key_of z ≡ k = ap key_of e ∙ key_of-level k (atom x) in
    true≢false (sym (same_row-itself k) ∙ ap (λ y. same_row y k) (sym own) ∙ other)))

other_keys : (key : Row → Row) (k : Row) (xs : List Row) → has_row (map key xs) k ≡ false → AllByRecursion (λ x. same_row k (key x) ≡ false) xs
other_keys key k [] absent = tt
other_keys key k (x ∷ xs) absent = let p = or_parts (same_row k (key x)) (has_row (map key xs) k) absent in (p.0, other_keys key k xs p.1)

keys_have : (key : Row → Row) (A : Dataset) (k : Row) → has_row (keys key A) k ≡ has_row (map key (rows A)) k
keys_have key A k = has_row-with_rows (map key (rows A)) [] k ∙ or_none (has_row (map key (rows A)) k)
  where
    or_none : (b : Bool) → (b || false) ≡ b
    or_none true = refl
    or_none false = refl

-- a key that doesn't occur has no rows, and its part no levels
part-no_key : (key : Row → Row) (k : Row) (A : Dataset) → has_row (keys key A) k ≡ false → part key k A ≡ empty
part-no_key key k A absent =
    same_weights (part key k A) empty (λ x. at-filtered (λ x. same_row k (key x)) A x ∙ weightless x (has_row (rows A) x) refl ∙ sym (at-empty x))
  where
    either : (b : Bool) → cond b zero_ratio zero_ratio ≡ zero_ratio
    either true = refl
    either false = refl

    weightless : (x : Row) (b : Bool) → has_row (rows A) x ≡ b → cond (same_row k (key x)) (at A x) zero_ratio ≡ zero_ratio
    weightless x true there = ap (λ b. cond b (at A x) zero_ratio) (at-member (λ x. same_row k (key x) ≡ false) (rows A) x (other_keys key k (rows A) (sym (keys_have key A k) ∙ absent)) there)
    weightless x false gone = ap (λ w. cond (same_row k (key x)) w zero_ratio) (at-absent A x gone) ∙ either (same_row k (key x))

levels-empty : levels empty ≡ []
unfolding empty
levels-empty = refl

pub levels-no_key : (key : Row → Row) (k : Row) (A : Dataset) → has_row (keys key A) k ≡ false → levels (part key k A) ≡ []
levels-no_key key k A absent = ap levels (part-no_key key k A absent) ∙ levels-empty

-- ---- the terms at an output row

pub group_terms-part : (key : Row → Row) (reduce : List Row → Atom) (A : Dataset) (z : Row) → group_terms key reduce A z ≡ part_terms reduce (key_of z) (part key (key_of z) A) z
group_terms-part key reduce A z =
    let give : Row → List Ratio = λ k. part_terms reduce k (part key k A) z in
    weights_for-pairs (group_row key reduce A) (half_gap key A) (λ k. levels (part key k A)) (keys key A) z
    ∙ given_once give (key_of z) (λ k other. other_key k (λ t. reduce (top (part key k A) t)) (level_weight (part key k A)) (levels (part key k A)) z other)
    (keys key A) (AreRising-with_rows (map key (rows A)) [] AreRising-none)
    ∙ own (has_row (keys key A) (key_of z)) refl
  where
    own : (b : Bool) → has_row (keys key A) (key_of z) ≡ b → cond b (part_terms reduce (key_of z) (part key (key_of z) A) z) [] ≡ part_terms reduce (key_of z) (part key (key_of z) A) z
    own true there = refl
    own false absent =
        sym (ap (λ ts. weights_for (level_row reduce (key_of z) (part key (key_of z) A)) (level_weight (part key (key_of z) A)) ts z) (levels-no_key key (key_of z) A absent))
