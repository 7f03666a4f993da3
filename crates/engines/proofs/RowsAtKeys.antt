-- How many rows belong to keys: those of parts, and those that are put for changes.
use Rattle.std.specs.Prelude.{◌≡◌, ◌≢◌, ℕ, ◌+◌, ◌≤◌, Bool, true, false, cond, List, [], ◌∷◌, filter, length, refl}
use Rattle.std.specs.Cmp.{eq_by_cmp_equiv}
use Rattle.std.specs.List.{sum_by}
use Rattle.std.proofs.Common.{sym, ap, ◌∙◌, arith}
use Rattle.std.proofs.lemmas.Bool.{and_from, and_parts, or_left, or_right}
use Rattle.std.proofs.lemmas.List.{length-map}
use Rattle.std.proofs.lemmas.List.Folds.{list_any-append}
use Rattle.std.proofs.lemmas.List.Kept.{IsStrictlySortedBy-filter}
use Rattle.std.proofs.lemmas.List.Sums.{sum_by-cons, sum_by-le-sum_by}
use Rattle.std.proofs.lemmas.Map.Keys.{IsDistinct-from_sorted}
use Rattle.std.proofs.lemmas.Map.Made.{length-le_from_is_member}
use Rattle.ratios.specs.Ratio.{ratio_mul, zero_ratio}
use Rattle.ratios.proofs.Products.{ratio_mul_zero, ratio_zero_mul}
use Rattle.record_text.specs.Order.{row_cmp}
use Rattle.record_text.specs.OrderLaws.{row_total}
use Rattle.datasets.specs.Dataset.{Dataset, at, rows, rows_of_either}
use Rattle.datasets.specs.Entries.{AreRising, Row, has_row, same_row}
use Rattle.datasets.proofs.RowLists.{has_row-filter, has_row-with_rows}
use Rattle.datasets.proofs.Weights.{at-present, there_if_weighed}
use Rattle.weighted_set.specs.Changes.{IsChangeList, changed_rows}
use Rattle.weighted_set.specs.Parts.{part_of}
use Rattle.weighted_set.specs.declared.weighted.Change.{Change}
use Rattle.weighted_set.proofs.Parts.{at-part_of}
use Rattle.engines.specs.Ticks.{changes_ticks, size}
use Rattle.engines.specs.Touched.{changed_keys}
use Rattle.engines.specs.Work.{rows_at}
use Rattle.engines.proofs.TouchedKeys.{changed_in_either}

-- ---- rows in order, each once
-- each of these rows is one of those
abbrev AreAmong : List Row → List Row → Type 0
AreAmong xs ys = (x : Row) → has_row xs x ≡ true → has_row ys x ≡ true

-- rows in order that are all in a list are at most as many
at_most : (xs ys : List Row) → AreRising xs → AreAmong xs ys → length xs ≤ length ys
at_most xs ys rising among =
    length-le_from_is_member (eq_by_cmp_equiv row_total) xs ys (IsDistinct-from_sorted row_cmp xs rising) among

-- and so are those of them that pass a test
passing_at_most : (test : Row → Bool) (xs ys : List Row) → AreRising xs → AreAmong xs ys
    → length (filter test xs) ≤ length (filter test ys)
passing_at_most test xs ys rising among =
    at_most (filter test xs) (filter test ys) (IsStrictlySortedBy-filter row_cmp test xs rising) (λ x m.
    let both = and_parts (test x) (has_row xs x) (sym (has_row-filter test xs x) ∙ m) in
    has_row-filter test ys x ∙ and_from (test x) (has_row ys x) both.0 (among x both.1))

-- ---- the rows at a key
-- the row belongs to the key
abbrev is_at : (Row → Dataset) → Row → Row → Bool
is_at keys k x = has_row (rows (keys x)) k

-- how many of these rows belong to the key
abbrev count_at : (Row → Dataset) → Row → List Row → ℕ
count_at keys k xs = length (filter (is_at keys k) xs)

first_among : (A C : Dataset) → AreAmong (rows A) (rows_of_either A C)
first_among A C x h = has_row-with_rows (rows A) (rows C) x ∙ or_left (has_row (rows A) x) (has_row (rows C) x) h

second_among : (A C : Dataset) → AreAmong (rows C) (rows_of_either A C)
second_among A C x h = has_row-with_rows (rows A) (rows C) x ∙ or_right (has_row (rows A) x) (has_row (rows C) x) h

-- a row of a key's part is one of the dataset's, and belongs to the key
in_part : (keys : Row → Dataset) (k : Row) (E : Dataset)
    → AreAmong (rows (part_of keys k E)) (filter (is_at keys k) (rows E))
in_part keys k E x m =
    let factor = at (keys x) k in
    let there = at-present (part_of keys k E) x m in
    let product : at (part_of keys k E) x ≡ ratio_mul (at E x) factor = at-part_of keys k E x in
    let weighed : at E x ≢ zero_ratio =
    λ z. there (product ∙ ap (λ w. ratio_mul w factor) z ∙ ratio_zero_mul factor) in
    let belongs : factor ≢ zero_ratio = λ z. there (product ∙ ap (ratio_mul (at E x)) z ∙ ratio_mul_zero (at E x)) in
    let both = and_from (is_at keys k x) (has_row (rows E) x) in
    has_row-filter (is_at keys k) (rows E) x ∙ both (there_if_weighed (keys x) k belongs) (there_if_weighed E x weighed)

-- so a part has at most the rows at the key of any rows that have the dataset's
part_at_most : (keys : Row → Dataset) (k : Row) (E : Dataset) (ys : List Row) → AreAmong (rows E) ys
    → size (part_of keys k E) ≤ count_at keys k ys
part_at_most keys k E ys among =
    let part = part_of keys k E in
    let count = length-map part.entries (λ e. e.0) in
    let first = at_most (rows part) (filter (is_at keys k) (rows E)) part.rising (in_part keys k E) in
    let second = passing_at_most (is_at keys k) (rows E) ys E.rising among in
    omega (arith, count, first, second)

pub part_before_at_most : (keys : Row → Dataset) (k : Row) (A C : Dataset)
    → size (part_of keys k A) ≤ rows_at keys k A C
part_before_at_most keys k A C = part_at_most keys k A (rows_of_either A C) (first_among A C)

pub part_after_at_most : (keys : Row → Dataset) (k : Row) (A C : Dataset)
    → size (part_of keys k C) ≤ rows_at keys k A C
part_after_at_most keys k A C = part_at_most keys k C (rows_of_either A C) (second_among A C)

-- ---- what is put for changes
counted_one : (b : Bool) (x : Row) (xs : List Row) → length (cond b (x ∷ xs) xs) ≡ cond b 1 0 + length xs
counted_one true x xs = omega arith
counted_one false x xs = omega arith

-- one row more counts at each of its keys
counted_more : (keys : Row → Dataset) (x : Row) (xs ks : List Row) → sum_by (λ k. count_at keys k (x ∷ xs)) ks
    ≡ length (filter (has_row (rows (keys x))) ks) + sum_by (λ k. count_at keys k xs) ks
counted_more keys x xs [] = refl
counted_more keys x xs (k ∷ ks) =
    let more = sum_by-cons (λ k. count_at keys k (x ∷ xs)) k ks in
    let before = sum_by-cons (λ k. count_at keys k xs) k ks in
    let rest = counted_more keys x xs ks in
    let own = counted_one (is_at keys k x) x (filter (is_at keys k) xs) in
    let other = counted_one (is_at keys k x) k (filter (has_row (rows (keys x))) ks) in
    omega (arith, more, before, rest, own, other)

-- an entry for each key of each changed row is one for each changed row at a key
puts_at_most : (keys : Row → Dataset) (changes : List Change) (ks : List Row) → AreAmong (changed_keys keys changes) ks
    → changes_ticks keys changes ≤ sum_by (λ k. count_at keys k (changed_rows changes)) ks
puts_at_most keys [] ks among = omega arith
puts_at_most keys (c ∷ cs) ks among =
    let these = rows (keys c.row) in
    let others = changed_keys keys cs in
    let these_among : AreAmong these ks =
    λ k m. among k (list_any-append (same_row k) these others ∙ or_left (has_row these k) (has_row others k) m) in
    let others_among : AreAmong others ks =
    λ k m. among k (list_any-append (same_row k) these others ∙ or_right (has_row these k) (has_row others k) m) in
    let count = length-map (keys c.row).entries (λ e. e.0) in
    let more = sum_by-cons (λ (d : Change). size (keys d.row)) c cs in
    let first = at_most these (filter (has_row these) ks) (keys c.row).rising (λ k m.
    has_row-filter (has_row these) ks k ∙ and_from (has_row these k) (has_row ks k) m (these_among k m)) in
    let rest = puts_at_most keys cs ks others_among in
    let both = counted_more keys c.row (changed_rows cs) ks in
    omega (arith, count, more, first, rest, both)

-- the changed rows at a key are among the rows at it
pub puts_within : (keys : Row → Dataset) (changes : List Change) (A C : Dataset) (ks : List Row)
    → IsChangeList changes A C → AreAmong (changed_keys keys changes) ks
    → changes_ticks keys changes ≤ sum_by (λ k. rows_at keys k A C) ks
puts_within keys changes A C ks is among =
    let xs = changed_rows changes in
    let puts = puts_at_most keys changes ks among in
    let each = sum_by-le-sum_by (λ k. count_at keys k xs) (λ k. rows_at keys k A C) ks (λ k.
    passing_at_most (is_at keys k) xs (rows_of_either A C) is.rising (changed_in_either changes A C is)) in
    omega (arith, puts, each)
