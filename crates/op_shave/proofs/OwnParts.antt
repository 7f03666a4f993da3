-- The part of a key, as it is listed: its row, or none.
use Rattle.std.specs.Prelude.{◌≡◌, true, List, [], ◌∷◌, map, slice_get, Some, None, refl}
use Rattle.std.specs.List.{AllByRecursion, list_all}
use Rattle.std.specs.List.Sorted.{IsStrictlySortedBy}
use Rattle.std.specs.declared.cmp.Ordering.TheVariants.{Less}
use Rattle.std.proofs.Common.{sym, ap, subst, ◌∙◌, true≢false}
use Rattle.std.proofs.lemmas.Bool.{and_from}
use Rattle.ratios.specs.Range.{in_range}
use Rattle.ratios.specs.Ratio.{Ratio}
use Rattle.record_text.specs.Order.{row_cmp}
use Rattle.datasets.specs.Dataset.{rows}
use Rattle.datasets.specs.Entries.{AreRising, Row, rows_of, weight_in}
use Rattle.datasets.proofs.Rows.{different_if_less, same_row-itself}
use Rattle.operators.specs.InRange.{shave_in_range, weights_in_range}
use Rattle.operators.specs.Operators.{shaved}
use Rattle.operators.proofs.SingleWeights.{AllByRecursion-has_row}
use Rattle.weighted_set.specs.Changes.{entries_of}
use Rattle.weighted_set.specs.Parts.{IsListed, listed}
use Rattle.weighted_set.specs.declared.weighted.Weighted.{Weighted}
use Rattle.weighted_set.proofs.Parts.{at-present}
use Rattle.op_parts.specs.Takes.{HasOnly}
use Rattle.op_parts.proofs.OneRows.{entries-empty}
use Rattle.op_shave.specs.Shave.{shave_fits}
use Rattle.op_shave.proofs.OneShaved.{shaved_entries, tested_entries}

-- ---- a part of one row
all_own : (k : Row) (left : List Weighted) → IsListed left → HasOnly k (listed left) → AllByRecursion (λ x. x ≡ k) (rows_of (entries_of left))
all_own k left is_listed only =
    subst (AllByRecursion (λ x. x ≡ k)) (ap rows_of is_listed) (AllByRecursion-has_row (λ x. x ≡ k) (rows (listed left)) (λ x there. only x (at-present (listed left) x there)))

two_rows : (k x y : Row) → x ≡ k → y ≡ k → row_cmp x y ≡ Less → ⊥
two_rows k x y e f less = true≢false (sym (same_row-itself x) ∙ different_if_less x x (ap (row_cmp x) (e ∙ sym f) ∙ less))

first_less : (x y : Row) (zs : List Row) → AreRising (x ∷ y ∷ zs) → row_cmp x y ≡ Less
unfolding IsStrictlySortedBy
first_less x y zs rising = rising.0.0

pub only_one : (k : Row) (left : List Weighted) → IsListed left → HasOnly k (listed left) → (e : Weighted) → Some e ≡ slice_get left 0 → left ≡ e ∷ []
only_one k [] is_listed only e first = cc
only_one k (y ∷ []) is_listed only e first = let same : y ≡ e = cc in ap (λ y. y ∷ []) same
only_one k (y ∷ z ∷ left) is_listed only e first =
    let own = all_own k (y ∷ z ∷ left) is_listed only in
    let rising = subst AreRising (ap rows_of is_listed) (listed (y ∷ z ∷ left)).rising in
    absurd (two_rows k y.row z.row own.0 own.1.0 (first_less y.row z.row (rows_of (entries_of left)) rising))

-- ---- a part without rows
pub none_listed : (left : List Weighted) → None ≡ slice_get left 0 → left ≡ []
none_listed [] first = refl
none_listed (e ∷ left) first = cc

module _ (fs : List Ratio) (left : List Weighted) (is_listed : IsListed left) (none : left ≡ []) where
  no_entries : (listed left).entries ≡ []
  no_entries = is_listed ∙ ap entries_of none

  pub entries-none : (shaved fs (listed left)).entries ≡ []
  entries-none = ap (shaved_entries fs) no_entries ∙ entries-empty

  pub fits-none : shave_fits fs (listed left) ≡ true
  fits-none =
      and_from (shave_in_range fs (listed left)) (weights_in_range (shaved fs (listed left))) (ap (tested_entries fs) no_entries)
      (ap (λ es. list_all in_range (map (weight_in es) (rows_of es))) entries-none)
