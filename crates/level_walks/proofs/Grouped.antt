-- A group of a dataset, key by key.
use Rattle.std.specs.Prelude.{◌≡◌, ◌≢◌, Bool, true, false, ◌&&◌, fold, List, [], ◌∷◌, map, refl}
use Rattle.std.specs.List.{list_all}
use Rattle.std.proofs.Common.{sym, ap, ap₂, subst, ◌∙◌}
use Rattle.std.proofs.lemmas.Bool.{and_parts}
use Rattle.std.proofs.lemmas.List.Folds.{list_all-append, list_all-map}
use Rattle.ratios.specs.Range.{InRange, all_in_range, in_range}
use Rattle.ratios.specs.Ratio.{Ratio, ratio_add, zero_ratio}
use Rattle.ratios.specs.Sums.{ratio_sum, running_sums_after, runs_in_range}
use Rattle.record_text.specs.declared.atom.Atom.{Atom}
use Rattle.datasets.specs.Dataset.{Dataset, at}
use Rattle.datasets.specs.Entries.{Row, has_row, same_row}
use Rattle.datasets.proofs.Members.{at-member}
use Rattle.datasets.proofs.Rows.{same_row-equal}
use Rattle.operators.specs.InRange.{group_in_range}
use Rattle.operators.specs.Operators.{gap, group_row, group_terms, grouped, half_gap, key_levels, keys, levels, part, top}
use Rattle.operators.specs.Weights.{pairs}
use Rattle.operators.proofs.Gathered.{at-gathered}
use Rattle.level_walks.specs.Levels.{group_part, key_of, level_row, level_weight, part_in_range, part_terms}
use Rattle.level_walks.proofs.Checked.{each_passes, passes_weaker, runs-everywhere}
use Rattle.level_walks.proofs.Keys.{group_terms-part, key_of-level, levels-no_key, other_key}

list_all-pairs : {X Y : Type 0} (test : X × Y → Bool) (f : X → List Y) (xs : List X) → list_all test (pairs xs f) ≡ list_all (λ x. list_all (λ y. test (x, y)) (f x)) xs
list_all-pairs test f [] = refl
list_all-pairs test f (x ∷ xs) =
    list_all-append test (map (λ y. (x, y)) (f x)) (pairs xs f) ∙ ap₂ (λ a b. a && b) (list_all-map test (λ y. (x, y)) (f x)) (list_all-pairs test f xs)

everywhere : {X : Type 0} (test : X → Bool) (xs : List X) → ((x : X) → test x ≡ true) → list_all test xs ≡ true
everywhere test [] h = refl
everywhere test (x ∷ xs) h = ap₂ (λ a b. a && b) (h x) (everywhere test xs h)

sum_after : (q : Ratio) (ws : List Ratio) → InRange q → all_in_range (running_sums_after q ws) ≡ true → InRange (fold ratio_add q ws)
sum_after q [] h runs = h
sum_after q (w ∷ ws) h runs = let p = and_parts _ (all_in_range (running_sums_after (ratio_add q w) ws)) runs in sum_after (ratio_add q w) ws p.0 p.1

-- ---- outputs

-- a row weighs what it weighs in the output of its key's part
pub at-grouped : (key : Row → Row) (reduce : List Row → Atom) (A : Dataset) (z : Row) → at (grouped key reduce A) z ≡ at (group_part reduce (key_of z) (part key (key_of z) A)) z
at-grouped key reduce A z =
    let P = part key (key_of z) A in
    at-gathered (group_row key reduce A) (half_gap key A) (key_levels key A) z
    ∙ ap ratio_sum (group_terms-part key reduce A z)
    ∙ sym (at-gathered (level_row reduce (key_of z) P) (level_weight P) (levels P) z)

-- an output row of a part has the part's key
pub group_part-owned : (reduce : List Row → Atom) (k : Row) (P : Dataset) (z : Row) → at (group_part reduce k P) z ≢ zero_ratio → key_of z ≡ k
group_part-owned reduce k P z weighed =
    elim (same_row (key_of z) k) as (λ b. same_row (key_of z) k ≡ b → key_of z ≡ k) [
      | true ↦ λ e. same_row-equal (key_of z) k e
      | false ↦ λ other.
          absurd (weighed (at-gathered (level_row reduce k P) (level_weight P) (levels P) z ∙ ap ratio_sum (other_key k (λ t. reduce (top P t)) (level_weight P) (levels P) z other)))
    ] refl

-- ---- range
module _ (key : Row → Row) (reduce : List Row → Atom) (A : Dataset) where
  abbrev whole_test : Row × Ratio → Bool
  whole_test p = in_range (gap (part key p.0 A) p.1) && in_range (half_gap key A p) && runs_in_range (group_terms key reduce A (group_row key reduce A p))

  abbrev part_test : Row → Ratio → Bool
  part_test k t = in_range (gap (part key k A) t) && in_range (level_weight (part key k A) t) && runs_in_range (part_terms reduce k (part key k A) (level_row reduce k (part key k A) t))

  same_test : (k : Row) (t : Ratio) → whole_test (k, t) ≡ part_test k t
  same_test k t =
      let z = level_row reduce k (part key k A) t in
      ap (λ ws. in_range (gap (part key k A) t) && in_range (level_weight (part key k A) t) && runs_in_range ws)
      (group_terms-part key reduce A z ∙ ap (λ j. part_terms reduce j (part key j A) z) (key_of-level k (reduce (top (part key k A) t))))

  -- no value of the group is out of range just where none of a part is
  pub parts-in_range : group_in_range key reduce A ≡ true → (k : Row) → part_in_range reduce k (part key k A) ≡ true
  parts-in_range h k = split (has_row (keys key A) k) refl
    where
      by_keys : list_all (λ k. list_all (λ t. whole_test (k, t)) (levels (part key k A))) (keys key A) ≡ true
      by_keys = sym (list_all-pairs whole_test (λ k. levels (part key k A)) (keys key A)) ∙ h

      split : (b : Bool) → has_row (keys key A) k ≡ b → part_in_range reduce k (part key k A) ≡ true
      split true there =
          passes_weaker (λ t. whole_test (k, t)) (part_test k) (levels (part key k A)) (λ t p. sym (same_test k t) ∙ p)
          (at-member (λ k. list_all (λ t. whole_test (k, t)) (levels (part key k A)) ≡ true) (keys key A) k (each_passes (λ k. list_all (λ t. whole_test (k, t)) (levels (part key k A))) (keys key A) by_keys) there)
      split false absent = ap (list_all (part_test k)) (levels-no_key key k A absent)

  pub whole-in_range : ((k : Row) → part_in_range reduce k (part key k A) ≡ true) → group_in_range key reduce A ≡ true
  whole-in_range h =
      list_all-pairs whole_test (λ k. levels (part key k A)) (keys key A)
      ∙ everywhere (λ k. list_all (λ t. whole_test (k, t)) (levels (part key k A))) (keys key A)
      (λ k. passes_weaker (part_test k) (λ t. whole_test (k, t)) (levels (part key k A)) (λ t p. same_test k t ∙ p) (h k))

  -- each output weight is the last of running sums
  pub weights-in_range : InRange zero_ratio → ((k : Row) → part_in_range reduce k (part key k A) ≡ true) → (z : Row) → InRange (at (grouped key reduce A) z)
  weights-in_range none h z =
      let P = part key (key_of z) A in
      subst InRange (sym (at-grouped key reduce A z ∙ at-gathered (level_row reduce (key_of z) P) (level_weight P) (levels P) z))
      (sum_after zero_ratio (part_terms reduce (key_of z) P z) none (runs-everywhere reduce (key_of z) P (h (key_of z)) z))
