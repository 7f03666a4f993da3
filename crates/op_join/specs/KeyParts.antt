-- Which keys have rows on both sides, and the range of their parts.
use Rattle.std.specs.Prelude.{◌≡◌, Bool, true, false, cond, ◌&&◌, ◌||◌, not, filter, List, [], ◌∷◌, map, refl}
use Rattle.std.specs.List.{list_all}
use Rattle.std.proofs.Common.{sym, ap, ap₂, ◌∙◌, true≢false}
use Rattle.std.proofs.Math.Bool.{or-true}
use Rattle.std.proofs.lemmas.Bool.{and_from, and_parts}
use Rattle.datasets.specs.Dataset.{Dataset, rows}
use Rattle.datasets.specs.Entries.{Row, has_row, same_row}
use Rattle.datasets.proofs.Members.{at-member}
use Rattle.datasets.proofs.RowLists.{has_row-filter, has_row-with_rows}
use Rattle.datasets.proofs.Rows.{same_row-itself}
use Rattle.operators.specs.InRange.{join_in_range, key_in_range, weights_in_range}
use Rattle.operators.specs.Operators.{keys, part}
use Rattle.operators.specs.Weights.{pairs}
use Rattle.op_parts.proofs.Members.{AllByRecursion-from_list_all}
use Rattle.op_join.specs.Join.{has_no_row, is_empty, joined_part, part_in_range}
use Rattle.op_join.specs.OwnPairs.{rows-filtered}

-- ---- a key occurs where its part has a row

has_row-keyed : (key : Row → Row) (k : Row) (xs : List Row) → has_row (map key xs) k ≡ not (is_empty (filter (λ x. same_row k (key x)) xs))
has_row-keyed key k [] = refl
has_row-keyed key k (x ∷ xs) =
    let kept = filter (λ x. same_row k (key x)) xs in
    elim (same_row k (key x)) as (λ b. (b || has_row (map key xs) k) ≡ not (is_empty (cond b (x ∷ kept) kept))) [
      | true ↦ refl
      | false ↦ has_row-keyed key k xs
    ]

or_false : (b : Bool) → (b || false) ≡ b
or_false true = refl
or_false false = refl

pub has_row-keys : (key : Row → Row) (A : Dataset) (k : Row) → has_row (keys key A) k ≡ not (has_no_row (part key k A))
has_row-keys key A k =
    has_row-with_rows (map key (rows A)) [] k
    ∙ or_false (has_row (map key (rows A)) k)
    ∙ has_row-keyed key k (rows A)
    ∙ ap (λ xs. not (is_empty xs)) (sym (rows-filtered (λ x. same_row k (key x)) A))

-- ---- parts without rows

pub no_rows : (xs : List Row) → is_empty xs ≡ true → xs ≡ []
no_rows [] h = refl
no_rows (x ∷ xs) h = absurd (true≢false (sym h))

pub pairs-none : {X Y : Type 0} (xs : List X) → pairs xs (λ x. let none : List Y = [] in none) ≡ []
pairs-none [] = refl
pairs-none (x ∷ xs) = pairs-none xs

-- ---- tests of rows

-- a test passes at each row of a list where it does at each row that the list has
list_all-has_row : (test : Row → Bool) (xs : List Row) → ((x : Row) → has_row xs x ≡ true → test x ≡ true) → list_all test xs ≡ true
list_all-has_row test [] h = refl
list_all-has_row test (x ∷ xs) h =
    and_from (test x) (list_all test xs) (h x (ap (λ b. b || has_row xs x) (same_row-itself x)))
    (list_all-has_row test xs (λ z there. h z (ap (λ b. same_row z x || b) there ∙ or-true (same_row z x))))

-- ---- the values at each key

module _ (f g : Row → Row) (A B : Dataset) where
  abbrev P : Row → Dataset
  P k = part f k A

  abbrev Q : Row → Dataset
  Q k = part g k B

  -- the key k has rows on both sides
  has_both : (k : Row) → has_row (filter (has_row (keys g B)) (keys f A)) k ≡ (not (has_no_row (Q k)) && not (has_no_row (P k)))
  has_both k = has_row-filter (has_row (keys g B)) (keys f A) k ∙ ap₂ (λ a b. a && b) (has_row-keys g B k) (has_row-keys f A k)

  -- where the join is in range, so is each part whose weights are
  pub part-tested : join_in_range f g A B ≡ true → (k : Row) → weights_in_range (joined_part (P k) (Q k)) ≡ true → part_in_range (P k) (Q k) ≡ true
  part-tested h k weights = split (has_no_row (P k)) (has_no_row (Q k)) found
    where
      found : (not (has_no_row (Q k)) && not (has_no_row (P k))) ≡ true → key_in_range (P k) (Q k) ≡ true
      found e =
          at-member (λ k. key_in_range (P k) (Q k) ≡ true) (filter (has_row (keys g B)) (keys f A)) k
          (AllByRecursion-from_list_all (λ k. key_in_range (P k) (Q k)) (filter (has_row (keys g B)) (keys f A)) h) (has_both k ∙ e)

      split : (a b : Bool) → ((not b && not a) ≡ true → key_in_range (P k) (Q k) ≡ true) → (a || b || (key_in_range (P k) (Q k) && weights_in_range (joined_part (P k) (Q k)))) ≡ true
      split true b inside = refl
      split false true inside = refl
      split false false inside = and_from (key_in_range (P k) (Q k)) (weights_in_range (joined_part (P k) (Q k))) (inside refl) weights

  -- where each part is in range, so is the join
  pub keys-tested : ((k : Row) → part_in_range (P k) (Q k) ≡ true) → join_in_range f g A B ≡ true
  keys-tested h =
      list_all-has_row (λ k. key_in_range (P k) (Q k)) (filter (has_row (keys g B)) (keys f A)) (λ k there.
      inside k (has_no_row (P k)) (has_no_row (Q k)) (sym (has_both k) ∙ there) (h k))
    where
      inside : (k : Row) (a b : Bool) → (not b && not a) ≡ true → (a || b || (key_in_range (P k) (Q k) && weights_in_range (joined_part (P k) (Q k)))) ≡ true → key_in_range (P k) (Q k) ≡ true
      inside k true true e t = absurd cc
      inside k true false e t = absurd cc
      inside k false true e t = absurd cc
      inside k false false e t = (and_parts (key_in_range (P k) (Q k)) (weights_in_range (joined_part (P k) (Q k))) t).0
