-- Lists of rows that are datasets, as the tests make them.
use Rattle.std.specs.Prelude.{◌≡◌, ℕ, ◌+◌, ◌≤◌, List, [], ◌∷◌, ◌++◌, length, slice_get, take, Some, refl}
use Rattle.std.proofs.Common.{sym, ap, ap₂, subst, ◌∙◌, arith}
use Rattle.std.proofs.lemmas.List.{length-map, map-append, take_all}
use Rattle.ratios.specs.Ratio.{Ratio, one_ratio}
use Rattle.record_text.specs.KindLists.{kinds_of}
use Rattle.record_text.specs.declared.kinds.Kind.{Kind}
use Rattle.record_text.proofs.Lists.{front_more}
use Rattle.datasets.specs.Dataset.{Dataset, dataset_of, empty, rows}
use Rattle.datasets.specs.Entries.{Entries, Row}
use Rattle.weighted_set.specs.Changes.{entries_of}
use Rattle.operators.proofs.SingleWeights.{AllByRecursion-has_row}
use Rattle.plan_model.specs.Types.{HasColumns}
use Rattle.weighted_set.proofs.Parts.{IsListed-entries, at-present, listed-entries}
use Rattle.weighted_set.specs.Parts.{IsListed, listed}
use Rattle.weighted_set.specs.declared.part_op.Side.TheVariants.{Left}
use Rattle.weighted_set.specs.declared.weighted.Weighted.{Weighted}
use Rattle.op_linear.specs.Filter.{FilterParts, filter_keys}
use Rattle.op_linear.specs.FilterLaws.{factor_is_own}
use Rattle.op_parts.proofs.OneRows.{weighed_row}
use Rattle.op_parts.specs.OneRow.{one_row}
use Rattle.op_parts.specs.Takes.{HasOnly}

-- one entry more
pub entries-more : (es : Entries) (list : List Weighted) (i : ℕ) (x : Row) (w : Ratio) → entries_of list ≡ take i es → slice_get es i ≡ Some (x, w) → (e : Weighted) → e.row ≡ x → e.weight ≡ w → entries_of (list ++ e ∷ []) ≡ take (i + 1) es
entries-more es list i x w so_far at e row weight =
    map-append (λ (e : Weighted). (e.row, e.weight)) list (e ∷ [])
    ∙ ap (λ fs. fs ++ (e.row, e.weight) ∷ []) so_far
    ∙ ap₂ (λ x w. take i es ++ (x, w) ∷ []) row weight
    ∙ sym (front_more es i (x, w) at)

-- all entries
pub IsListed-all : (A : Dataset) (list : List Weighted) (i n : ℕ) → entries_of list ≡ take i A.entries → n ≡ length (rows A) → n ≤ i → IsListed list
IsListed-all A list i n e count past =
    let all : length (rows A) ≡ length A.entries = length-map A.entries (λ e. e.0) in
    IsListed-entries list A (e ∙ take_all i A.entries (omega arith))

pub IsListed-none : IsListed []
unfolding dataset_of empty
IsListed-none = refl

-- the keys of a row are the row alone
pub HasOnly-keys : (op : FilterParts) (x : Row) (list : List Weighted) → entries_of list ≡ (filter_keys op Left x).entries → HasOnly x (listed list)
HasOnly-keys op x list e = subst (HasOnly x) (sym (listed-entries list (filter_keys op Left x) e)) (λ z h. sym (factor_is_own op x z h).1)

-- a row that is its own key is the only row of its part
pub HasOnly-one_row : (x : Row) (list : List Weighted) → entries_of list ≡ (one_row x one_ratio).entries → HasOnly x (listed list)
HasOnly-one_row x list e = subst (HasOnly x) (sym (listed-entries list (one_row x one_ratio) e)) (λ z h. (weighed_row x one_ratio z h).1)

-- which has the columns of the row
pub HasColumns-one_row : (cols : List Kind) (x : Row) (list : List Weighted) → entries_of list ≡ (one_row x one_ratio).entries → kinds_of x ≡ cols → HasColumns cols (listed list)
HasColumns-one_row cols x list e same =
    subst (HasColumns cols) (sym (listed-entries list (one_row x one_ratio) e))
    (AllByRecursion-has_row (λ y. kinds_of y ≡ cols) (rows (one_row x one_ratio)) (λ y here.
    ap kinds_of (weighed_row x one_ratio y (at-present (one_row x one_ratio) y here)).1 ∙ same))
