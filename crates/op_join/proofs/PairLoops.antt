-- One pair more, and one row's pairs more.
use Rattle.std.specs.Prelude.{◌≡◌, ℕ, ◌+◌, ◌&&◌, true, false, List, [], ◌∷◌, ◌++◌, slice_get, take, Some, refl}
use Rattle.std.specs.List.{list_all}
use Rattle.std.proofs.Common.{ap, ap₂, sym, ◌∙◌, true≢false}
use Rattle.std.proofs.lemmas.Bool.{false_from_ne_true}
use Rattle.std.proofs.lemmas.Grind.{flat_map-append}
use Rattle.std.proofs.lemmas.List.{append-nil}
use Rattle.std.proofs.lemmas.List.Folds.{list_all-append, list_all-map}
use Rattle.ratios.specs.Range.{checked, in_range}
use Rattle.ratios.specs.Ratio.{Ratio, ratio_div, zero_ratio}
use Rattle.ratios.proofs.Divided.{zero_div}
use Rattle.ratios.proofs.Products.{ratio_mul_zero}
use Rattle.ratios.proofs.Range.{checked-in}
use Rattle.record_text.proofs.Lists.{front_more, map-front_more, passes_at}
use Rattle.datasets.specs.Entries.{Entries, Row}
use Rattle.weighted_set.specs.declared.weighted.Weighted.{Weighted}
use Rattle.weighted_set.proofs.Sets.{InRange-zero}
use Rattle.op_join.specs.Pairs.{all_pairs, checked_weight, entries_in_range, pair_entry, row_pairs}

-- entries whose front and back are in range are
both_in_range : (es fs : Entries) → entries_in_range es ≡ true → entries_in_range fs ≡ true → entries_in_range (es ++ fs) ≡ true
both_in_range es fs h k = list_all-append (λ e. in_range e.1) es fs ∙ ap₂ (λ a b. a && b) h k

-- a pair with a weight of 0 weighs 0
pub checked_weight-none : (d w : Ratio) → Some zero_ratio ≡ checked_weight d w zero_ratio
checked_weight-none d w = sym (checked-in zero_ratio InRange-zero) ∙ ap checked (sym (ap (λ q. ratio_div q d) (ratio_mul_zero w) ∙ zero_div d))

-- ---- the pairs of one row

module _ (d : Ratio) (x : Weighted) (ys : List Weighted) (i : ℕ) (y : Weighted) (is : slice_get ys i ≡ Some y) where
  pub row_pairs-more : row_pairs d x (take (i + 1) ys) ≡ row_pairs d x (take i ys) ++ pair_entry d x y ∷ []
  row_pairs-more = map-front_more (pair_entry d x) ys i y is

  pub row_in-more : entries_in_range (row_pairs d x (take i ys)) ≡ true → in_range (pair_entry d x y).1 ≡ true → entries_in_range (row_pairs d x (take (i + 1) ys)) ≡ true
  row_in-more h k = ap entries_in_range row_pairs-more ∙ both_in_range (row_pairs d x (take i ys)) (pair_entry d x y ∷ []) h (ap (λ b. b && true) k)

  pub row_out : in_range (pair_entry d x y).1 ≡ false → entries_in_range (row_pairs d x ys) ≡ false
  row_out out =
      false_from_ne_true (entries_in_range (row_pairs d x ys)) (λ all.
      true≢false (sym (passes_at (λ y. in_range (pair_entry d x y).1) ys i y is (sym (list_all-map (λ (e : Row × Ratio). in_range e.1) (pair_entry d x) ys) ∙ all)) ∙ out))

-- ---- the pairs of all rows

-- they are in range where those of each row are
rows_in_range : (d : Ratio) (xs ys : List Weighted) → entries_in_range (all_pairs d xs ys) ≡ list_all (λ x. entries_in_range (row_pairs d x ys)) xs
rows_in_range d [] ys = refl
rows_in_range d (x ∷ xs) ys =
    list_all-append (λ e. in_range e.1) (row_pairs d x ys) (all_pairs d xs ys) ∙ ap (λ b. entries_in_range (row_pairs d x ys) && b) (rows_in_range d xs ys)

module _ (d : Ratio) (xs ys : List Weighted) (i : ℕ) (x : Weighted) (is : slice_get xs i ≡ Some x) where
  pub all_pairs-more : all_pairs d (take (i + 1) xs) ys ≡ all_pairs d (take i xs) ys ++ row_pairs d x ys
  all_pairs-more =
      ap (λ xs. all_pairs d xs ys) (front_more xs i x is)
      ∙ flat_map-append (λ x. row_pairs d x ys) (take i xs) (x ∷ [])
      ∙ ap (λ es. all_pairs d (take i xs) ys ++ es) (append-nil (row_pairs d x ys))

  pub all_in-more : entries_in_range (all_pairs d (take i xs) ys) ≡ true → entries_in_range (row_pairs d x ys) ≡ true → entries_in_range (all_pairs d (take (i + 1) xs) ys) ≡ true
  all_in-more h k = ap entries_in_range all_pairs-more ∙ both_in_range (all_pairs d (take i xs) ys) (row_pairs d x ys) h k

  pub all_out : entries_in_range (row_pairs d x ys) ≡ false → entries_in_range (all_pairs d xs ys) ≡ false
  all_out out =
      false_from_ne_true (entries_in_range (all_pairs d xs ys)) (λ all.
      true≢false (sym (passes_at (λ x. entries_in_range (row_pairs d x ys)) xs i x is (sym (rows_in_range d xs ys) ∙ all)) ∙ out))
