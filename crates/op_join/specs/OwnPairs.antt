-- The pairs that give a row are pairs of the parts of one key.
use Rattle.std.specs.Prelude.{◌≡◌, ◌≢◌, ◌&&◌, Bool, true, false, cond, filter, List, [], ◌∷◌, ◌++◌, map, refl}
use Rattle.std.specs.List.{AllByRecursion}
use Rattle.std.proofs.Common.{sym, ap, ap₂, ◌∙◌, true≢false}
use Rattle.std.proofs.lemmas.Bool.{false_from_ne_true}
use Rattle.std.proofs.lemmas.List.Kept.{IsStrictlySortedBy-filter}
use Rattle.ratios.specs.Ratio.{Ratio, ratio_add, ratio_div, ratio_mul, zero_ratio}
use Rattle.ratios.specs.Sums.{ratio_sum}
use Rattle.record_text.specs.Order.{row_cmp}
use Rattle.datasets.specs.Dataset.{Dataset, at, norm, rows}
use Rattle.datasets.specs.Entries.{Row, has_row, same_row}
use Rattle.datasets.proofs.Members.{AllByRecursion-everywhere, AllByRecursion-map, AllByRecursion-passing, AllByRecursion-weaker}
use Rattle.datasets.proofs.Rising.{same_rising}
use Rattle.datasets.proofs.RowLists.{has_row-filter}
use Rattle.datasets.proofs.Rows.{same_row-equal, same_row-itself}
use Rattle.datasets.proofs.Weights.{at-absent, at-present, there_if_weighed}
use Rattle.operators.specs.Operators.{both_norms, both_rows, filtered, joined, joint_weight, matches, part}
use Rattle.operators.specs.Weights.{pairs, weights_for}
use Rattle.operators.proofs.Elsewhere.{weights_for-none}
use Rattle.operators.proofs.Gathered.{at-gathered, weights_for-append}
use Rattle.operators.proofs.Tabulated.{at-filtered}
use Rattle.op_join.specs.Join.{joined_part, pair_weight}

-- ---- the rows that a filter keeps

-- a row is in both of two datasets that give it one weight, or in none
same_presence : (F A : Dataset) (z : Row) → at F z ≡ at A z → has_row (rows F) z ≡ has_row (rows A) z
same_presence F A z same =
    elim (has_row (rows A) z) as (λ b. has_row (rows A) z ≡ b → has_row (rows F) z ≡ b) [
      | true ↦ λ there. there_if_weighed F z (λ none. at-present A z there (sym same ∙ none))
      | false ↦ λ gone. false_from_ne_true (has_row (rows F) z) (λ there. at-present F z there (same ∙ at-absent A z gone))
    ] refl

pub rows-filtered : (test : Row → Bool) (A : Dataset) → rows (filtered test A) ≡ filter test (rows A)
rows-filtered test A =
    same_rising (rows (filtered test A)) (filter test (rows A)) (filtered test A).rising (IsStrictlySortedBy-filter row_cmp test (rows A) A.rising)
    (λ z. elim (test z) as (λ b. test z ≡ b → has_row (rows (filtered test A)) z ≡ has_row (filter test (rows A)) z) [
      | true ↦ λ e. same_presence (filtered test A) A z (at-filtered test A z ∙ ap (λ b. cond b (at A z) zero_ratio) e) ∙ sym (has_row-filter test (rows A) z ∙ ap (λ b. b && has_row (rows A) z) e)
      | false ↦ λ e.
          false_from_ne_true (has_row (rows (filtered test A)) z) (λ there. at-present (filtered test A) z there (at-filtered test A z ∙ ap (λ b. cond b (at A z) zero_ratio) e))
          ∙ sym (has_row-filter test (rows A) z ∙ ap (λ b. b && has_row (rows A) z) e)
    ] refl)

-- ---- weights

same_terms : {X : Type 0} (row : X → Row) (v w : X → Ratio) (xs : List X) (z : Row) → AllByRecursion (λ x. v x ≡ w x) xs → weights_for row v xs z ≡ weights_for row w xs z
same_terms row v w [] z h = refl
same_terms row v w (x ∷ xs) z h =
    elim (same_row z (row x)) as (λ b. map v (cond b (x ∷ filter (λ x. same_row z (row x)) xs) (filter (λ x. same_row z (row x)) xs)) ≡ map w (cond b (x ∷ filter (λ x. same_row z (row x)) xs) (filter (λ x. same_row z (row x)) xs))) [
      | true ↦ ap₂ (λ q ws. q ∷ ws) h.0 (same_terms row v w xs z h.1)
      | false ↦ same_terms row v w xs z h.1
    ]

module _ (f g : Row → Row) (A B : Dataset) (k z : Row) where
  -- the partners of x on the right
  abbrev partners : Row → List Row
  partners x = filter (λ y. same_row (f x) (g y)) (rows B)

  -- the rows of the key k on the right
  abbrev others : List Row
  others = filter (λ y. same_row k (g y)) (rows B)

  abbrev P : Dataset
  P = part f k A

  abbrev Q : Dataset
  Q = part g k B

  same_weight : (x y : Row) → same_row k (f x) ≡ true → same_row k (g y) ≡ true → joint_weight f g A B (x, y) ≡ pair_weight P Q (x, y)
  same_weight x y first second =
      ap (λ l. ratio_div (ratio_mul (at A x) (at B y)) (both_norms f g A B l)) (sym (same_row-equal k (f x) first))
      ∙ ap₂ (λ v w. ratio_div (ratio_mul v w) (ratio_add (norm P) (norm Q)))
      (sym (at-filtered (λ x. same_row k (f x)) A x ∙ ap (λ b. cond b (at A x) zero_ratio) first))
      (sym (at-filtered (λ y. same_row k (g y)) B y ∙ ap (λ b. cond b (at B y) zero_ratio) second))

  -- the pairs of a row with the key
  own_terms : (x : Row) → same_row k (f x) ≡ true →
      weights_for both_rows (joint_weight f g A B) (map (λ y. (x, y)) (partners x)) z ≡ weights_for both_rows (pair_weight P Q) (map (λ y. (x, y)) others) z
  own_terms x own =
      ap (λ l. weights_for both_rows (joint_weight f g A B) (map (λ y. (x, y)) (filter (λ y. same_row l (g y)) (rows B))) z) (sym (same_row-equal k (f x) own))
      ∙ same_terms both_rows (joint_weight f g A B) (pair_weight P Q) (map (λ y. (x, y)) others) z
      (AllByRecursion-map (λ p. joint_weight f g A B p ≡ pair_weight P Q p) (λ y. (x, y)) others
      (AllByRecursion-weaker (λ y. same_row k (g y) ≡ true) (λ y. joint_weight f g A B (x, y) ≡ pair_weight P Q (x, y)) others (λ y. same_weight x y own) (AllByRecursion-passing (λ y. same_row k (g y)) (rows B))))

  -- a row with another key gives no pair that is z
  no_terms : (x : Row) → ((y : Row) → z ≡ x ++ y → f x ≡ k) → same_row k (f x) ≡ false → weights_for both_rows (joint_weight f g A B) (map (λ y. (x, y)) (partners x)) z ≡ []
  no_terms x front other =
      weights_for-none both_rows (joint_weight f g A B) (map (λ y. (x, y)) (partners x)) z
      (AllByRecursion-map (λ p. z ≢ both_rows p) (λ y. (x, y)) (partners x)
      (AllByRecursion-everywhere (λ y. z ≢ x ++ y) (partners x) (λ y e. true≢false (sym (same_row-itself k) ∙ ap (same_row k) (sym (front y e)) ∙ other))))

  same_pairs : (xs : List Row) → AllByRecursion (λ x. (y : Row) → z ≡ x ++ y → f x ≡ k) xs →
      weights_for both_rows (joint_weight f g A B) (pairs xs partners) z ≡ weights_for both_rows (pair_weight P Q) (pairs (filter (λ x. same_row k (f x)) xs) (λ x. others)) z
  same_pairs [] fronts = refl
  same_pairs (x ∷ xs) fronts =
      let rest = same_pairs xs fronts.1 in
      let kept = filter (λ x. same_row k (f x)) xs in
      weights_for-append both_rows (joint_weight f g A B) (map (λ y. (x, y)) (partners x)) (pairs xs partners) z
      ∙ elim (same_row k (f x)) as (λ b. same_row k (f x) ≡ b →
      weights_for both_rows (joint_weight f g A B) (map (λ y. (x, y)) (partners x)) z ++ weights_for both_rows (joint_weight f g A B) (pairs xs partners) z ≡ weights_for both_rows (pair_weight P Q) (pairs (cond b (x ∷ kept) kept) (λ x. others)) z) [
        | true ↦ λ own. ap₂ (λ us vs. us ++ vs) (own_terms x own) rest ∙ sym (weights_for-append both_rows (pair_weight P Q) (map (λ y. (x, y)) others) (pairs kept (λ x. others)) z)
        | false ↦ λ other. ap₂ (λ us vs. us ++ vs) (no_terms x fronts.0 other) rest
      ] refl

  -- where a row that z begins with has the key k, the join weighs at z what the parts of k do
  pub at-own_parts : AllByRecursion (λ x. (y : Row) → z ≡ x ++ y → f x ≡ k) (rows A) → at (joined f g A B) z ≡ at (joined_part P Q) z
  at-own_parts fronts =
      at-gathered both_rows (joint_weight f g A B) (matches f g A B) z
      ∙ ap ratio_sum (same_pairs (rows A) fronts ∙ ap₂ (λ xs ys. weights_for both_rows (pair_weight P Q) (pairs xs (λ x. ys)) z) (sym (rows-filtered (λ x. same_row k (f x)) A)) (sym (rows-filtered (λ y. same_row k (g y)) B)))
      ∙ sym (at-gathered both_rows (pair_weight P Q) (pairs (rows P) (λ x. rows Q)) z)
