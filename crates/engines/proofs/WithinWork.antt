-- What is put for changes, and read and handed on at the keys that they touch, is within eight times the work.
use Rattle.std.specs.Prelude.{◌≡◌, ℕ, ◌+◌, ◌*◌, ◌≤◌, List, [], ◌∷◌, length, refl}
use Rattle.std.specs.List.{sum_by}
use Rattle.std.proofs.Common.{sym, subst, ◌∙◌, arith}
use Rattle.std.proofs.lemmas.Bool.{or_left, or_right}
use Rattle.std.proofs.lemmas.List.Sums.{sum-map, sum_by-cons}
use Rattle.datasets.specs.Dataset.{Dataset}
use Rattle.datasets.specs.Entries.{Row, has_row}
use Rattle.weighted_set.specs.Changes.{IsChangeList}
use Rattle.weighted_set.specs.Parts.{StoreParts, committed_part, pending_part}
use Rattle.weighted_set.specs.declared.weighted.Change.{Change}
use Rattle.engines.specs.Standing.{HoldParts}
use Rattle.engines.specs.Ticks.{changes_ticks, key_ticks, keys_ticks, size}
use Rattle.engines.specs.Touched.{changed_keys}
use Rattle.engines.specs.Work.{part_work, rows_at, touched_keys}
use Rattle.engines.proofs.RowsAtKeys.{part_after_at_most, part_before_at_most, puts_within}
use Rattle.engines.proofs.TouchedKeys.{has_row-touched_keys}

-- ---- sums over keys
sum_each : (l r : Row → ℕ) (ks : List Row) → sum_by (λ k. 1 + l k + r k) ks ≡ length ks + sum_by l ks + sum_by r ks
sum_each l r [] = refl
sum_each l r (k ∷ ks) =
    let rest = sum_each l r ks in
    let all = sum_by-cons (λ k. 1 + l k + r k) k ks in
    let lefts = sum_by-cons l k ks in
    let rights = sum_by-cons r k ks in
    omega (arith, rest, all, lefts, rights)

sum_four : (l r t : Row → ℕ) (ks : List Row) → ((k : Row) → t k ≤ 4 * (l k + r k))
    → sum_by t ks ≤ 4 * (sum_by l ks + sum_by r ks)
sum_four l r t [] h = omega arith
sum_four l r t (k ∷ ks) h =
    let here = h k in
    let rest = sum_four l r t ks h in
    let all = sum_by-cons t k ks in
    let lefts = sum_by-cons l k ks in
    let rights = sum_by-cons r k ks in
    omega (arith, here, rest, all, lefts, rights)

-- ---- both inputs
module _ (left_keys right_keys : Row → Dataset) (left right : List Change) (A B C D : Dataset)
    (left_is : IsChangeList left A C) (right_is : IsChangeList right B D) where
  abbrev touched : List Row
  touched = touched_keys left_keys right_keys A B C D

  abbrev at_left : Row → ℕ
  at_left k = rows_at left_keys k A C

  abbrev at_right : Row → ℕ
  at_right k = rows_at right_keys k B D

  left_puts : changes_ticks left_keys left ≤ sum_by at_left touched
  left_puts = puts_within left_keys left A C touched left_is (λ k m.
      has_row-touched_keys left_keys right_keys left right A B C D left_is right_is k
      ∙ or_left (has_row (changed_keys left_keys left) k) (has_row (changed_keys right_keys right) k) m)

  right_puts : changes_ticks right_keys right ≤ sum_by at_right touched
  right_puts = puts_within right_keys right B D touched right_is (λ k m.
      has_row-touched_keys left_keys right_keys left right A B C D left_is right_is k
      ∙ or_right (has_row (changed_keys left_keys left) k) (has_row (changed_keys right_keys right) k) m)

  work_is : part_work left_keys right_keys A B C D ≡ length touched + sum_by at_left touched + sum_by at_right touched
  work_is = sum-map (λ k. 1 + at_left k + at_right k) touched ∙ sum_each at_left at_right touched

  -- what is put alone, also where a refusal ends it
  pub puts-within_work : (a b : ℕ) → b ≤ a + (changes_ticks left_keys left + changes_ticks right_keys right)
      → b ≤ a + 8 * part_work left_keys right_keys A B C D
  puts-within_work a b put =
      let lefts = left_puts in
      let rights = right_puts in
      let work = work_is in
      omega (arith, put, lefts, rights, work)

  module _ (left_store right_store : StoreParts)
      (before : HoldParts left_keys right_keys (committed_part left_store) (committed_part right_store) A B)
      (after : HoldParts left_keys right_keys (pending_part left_store) (pending_part right_store) C D) where
    -- a touched key's entries before and after, each read and handed on
    key_at_most : (k : Row) → key_ticks left_store right_store k ≤ 4 * (at_left k + at_right k)
    key_at_most k =
        let a = subst (λ E. size E ≤ at_left k) (sym (before.of_left k)) (part_before_at_most left_keys k A C) in
        let b = subst (λ E. size E ≤ at_right k) (sym (before.of_right k)) (part_before_at_most right_keys k B D) in
        let c = subst (λ E. size E ≤ at_left k) (sym (after.of_left k)) (part_after_at_most left_keys k A C) in
        let d = subst (λ E. size E ≤ at_right k) (sym (after.of_right k)) (part_after_at_most right_keys k B D) in
        omega (arith, a, b, c, d)

    -- what is put, and then read and handed on at the touched keys
    pub keys-within_work : (keys : List Row) → keys ≡ touched → (a b c : ℕ)
        → b ≤ a + (changes_ticks left_keys left + changes_ticks right_keys right)
        → c ≤ b + keys_ticks left_store right_store keys → c ≤ a + 8 * part_work left_keys right_keys A B C D
    keys-within_work keys same a b c put read =
        let lefts = left_puts in
        let rights = right_puts in
        let work = work_is in
        let each = sum_four at_left at_right (key_ticks left_store right_store) touched key_at_most in
        let read_there = subst (λ ks. c ≤ b + keys_ticks left_store right_store ks) same read in
        omega (arith, put, read_there, lefts, rights, work, each)
