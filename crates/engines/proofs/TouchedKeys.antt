-- The keys that changes touch are those of the work.
use Rattle.std.specs.Prelude.{◌≡◌, ◌≢◌, Bool, true, ◌||◌, List, [], ◌∷◌, fold}
use Rattle.std.specs.Cmp.{both_ways}
use Rattle.std.specs.Ordering.{is_ne}
use Rattle.std.proofs.Common.{sym, ap, ap₂, ◌∙◌}
use Rattle.std.proofs.Math.Bool.{or-false, or_assoc}
use Rattle.std.proofs.lemmas.Bool.{and_parts}
use Rattle.std.proofs.lemmas.List.Elements.{recursion_from_All}
use Rattle.std.proofs.lemmas.List.Folds.{list_any-append}
use Rattle.ratios.specs.Ratio.{ratio_cmp}
use Rattle.datasets.specs.Dataset.{Dataset, at, differing, rows, rows_of_either, with_rows}
use Rattle.datasets.specs.Entries.{AreRising, Row, has_row, same_row}
use Rattle.datasets.proofs.Distances.{AreRising-differing, differing-are}
use Rattle.datasets.proofs.Members.{AllByRecursion-map, at-member}
use Rattle.datasets.proofs.Rising.{AreRising-none, same_rising}
use Rattle.datasets.proofs.RowLists.{AreRising-with_rows, has_row-filter, has_row-with_rows}
use Rattle.weighted_set.specs.Changes.{IsChangeList, changed_rows}
use Rattle.weighted_set.specs.declared.weighted.Change.{Change}
use Rattle.engines.specs.Touched.{changed_keys}
use Rattle.engines.specs.Work.{touched_by, touched_keys}

-- ---- the rows of changes
changed_differ : (changes : List Change) (A C : Dataset) → IsChangeList changes A C
    → (x : Row) → has_row (changed_rows changes) x ≡ true → at A x ≢ at C x
changed_differ changes A C is x m =
    at-member (λ y. at A y ≢ at C y) (changed_rows changes) x
    (AllByRecursion-map (λ y. at A y ≢ at C y) (λ (c : Change). c.row) changes
    (recursion_from_All (λ (c : Change). at A c.row ≢ at C c.row) changes (λ i d below.
    let each = is.each i d below in
    λ same. each.2 (each.0 ∙ same ∙ sym each.1)))) m

-- changes are of the rows whose weights differ
pub changed_rows-differing : (changes : List Change) (A C : Dataset) → IsChangeList changes A C
    → changed_rows changes ≡ differing A C
changed_rows-differing changes A C is =
    same_rising (changed_rows changes) (differing A C) is.rising (AreRising-differing A C) (λ x.
    both_ways (has_row (changed_rows changes) x) (has_row (differing A C) x)
    (λ m. (differing-are A C x).1 (changed_differ changes A C is x m))
    (λ m. is.complete x ((differing-are A C x).0 m)))

pub changed_in_either : (changes : List Change) (A C : Dataset) → IsChangeList changes A C
    → (x : Row) → has_row (changed_rows changes) x ≡ true → has_row (rows_of_either A C) x ≡ true
changed_in_either changes A C is x m =
    let differs : Row → Bool = λ y. is_ne (ratio_cmp (at A y) (at C y)) in
    let same = ap (λ xs. has_row xs x) (sym (changed_rows-differing changes A C is)) in
    let among = sym (has_row-filter differs (rows_of_either A C) x) ∙ same ∙ m in
    (and_parts (differs x) (has_row (rows_of_either A C) x) among).1

-- ---- the keys of rows, gathered in order
abbrev gathered : (Row → Dataset) → List Row → List Row → List Row
gathered keys ks xs = fold (λ ks x. with_rows ks (rows (keys x))) ks xs

AreRising-gathered : (keys : Row → Dataset) (ks xs : List Row) → AreRising ks → AreRising (gathered keys ks xs)
AreRising-gathered keys ks [] h = h
AreRising-gathered keys ks (x ∷ xs) h =
    let these = rows (keys x) in
    AreRising-gathered keys (with_rows ks these) xs (AreRising-with_rows ks these (keys x).rising)

has_row-gathered : (keys : Row → Dataset) (ks : List Row) (changes : List Change) (k : Row)
    → has_row (gathered keys ks (changed_rows changes)) k ≡ (has_row ks k || has_row (changed_keys keys changes) k)
has_row-gathered keys ks [] k = sym (or-false (has_row ks k))
has_row-gathered keys ks (c ∷ cs) k =
    let these = rows (keys c.row) in
    let rest = has_row (changed_keys keys cs) k in
    has_row-gathered keys (with_rows ks these) cs k
    ∙ ap (λ b. b || rest) (has_row-with_rows ks these k)
    ∙ or_assoc (has_row ks k) (has_row these k) rest
    ∙ ap (λ b. has_row ks k || b) (sym (list_any-append (same_row k) these (changed_keys keys cs)))

touched_by-changed : (keys : Row → Dataset) (changes : List Change) (A C : Dataset) → IsChangeList changes A C
    → (k : Row) → has_row (touched_by keys A C) k ≡ has_row (changed_keys keys changes) k
touched_by-changed keys changes A C is k =
    ap (λ xs. has_row (gathered keys [] xs) k) (sym (changed_rows-differing changes A C is))
    ∙ has_row-gathered keys [] changes k

-- ---- both inputs
module _ (left_keys right_keys : Row → Dataset) (left right : List Change) (A B C D : Dataset)
    (left_is : IsChangeList left A C) (right_is : IsChangeList right B D) where
  -- the key is one of a changed row
  abbrev is_changed : Row → Bool
  is_changed k = has_row (changed_keys left_keys left) k || has_row (changed_keys right_keys right) k

  pub has_row-touched_keys : (k : Row) → has_row (touched_keys left_keys right_keys A B C D) k ≡ is_changed k
  has_row-touched_keys k =
      let of_left = touched_by-changed left_keys left A C left_is k in
      let of_right = touched_by-changed right_keys right B D right_is k in
      has_row-with_rows (touched_by left_keys A C) (touched_by right_keys B D) k ∙ ap₂ (λ a b. a || b) of_left of_right

  -- keys in order, which are those of the changed rows, are the touched ones
  pub touched_keys_are : (touched : List Row) → AreRising touched → ((k : Row) → has_row touched k ≡ is_changed k)
      → touched ≡ touched_keys left_keys right_keys A B C D
  touched_keys_are touched rising changed =
      let of_right = AreRising-gathered right_keys [] (differing B D) AreRising-none in
      let all = AreRising-with_rows (touched_by left_keys A C) (touched_by right_keys B D) of_right in
      same_rising touched (touched_keys left_keys right_keys A B C D) rising all (λ k.
      changed k ∙ sym (has_row-touched_keys k))
