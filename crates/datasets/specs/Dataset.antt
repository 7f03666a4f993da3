-- Datasets: rows with weights other than 0, and what is done with them.
use Rattle.std.specs.Prelude.{Bool, List, [], ◌∷◌, filter, map, fold, ℕ, Option, not}
use Rattle.std.specs.List.{position_from}
use Rattle.std.specs.List.Sorted.{IsStrictlySortedBy}
use Rattle.std.specs.Ordering.{is_ne, match_ordering}
use Rattle.ratios.specs.Ratio.{Ratio, ratio_abs, is_below, ratio_add, ratio_cmp, ratio_sub, zero_ratio}
use Rattle.ratios.specs.Range.{in_range}
use Rattle.ratios.specs.Sums.{ratio_sum}
use Rattle.record_text.specs.Order.{row_cmp}
use Rattle.datasets.specs.Entries.{Row, Entries, rows_of, AreRising, NoneZero, weight_in, set_in}
use Rattle.datasets.specs.Kept.{AreRising-set_in, NoneZero-set_in}

-- rising rows with weights other than 0, so that datasets of the same weights are equal
pub record Dataset : Type 0 where
  pub entries : Entries
  pub rising : AreRising (rows_of entries)
  pub none_zero : NoneZero entries

-- the rows of weight other than 0, in order
abbrev pub rows : Dataset → List Row
rows A = rows_of A.entries

-- the weight of a row, 0 where it is absent
abbrev pub at : Dataset → Row → Ratio
at A x = weight_in A.entries x

-- ---- sizes

-- the absolute weights, in row order
abbrev pub norm_terms : Dataset → List Ratio
norm_terms A = map (λ e. ratio_abs e.1) A.entries

-- the sum of the absolute weights
abbrev pub norm : Dataset → Ratio
norm A = ratio_sum (norm_terms A)

-- rising rows with x among them
abbrev pub with_row : Row → List Row → List Row
with_row x [] = x ∷ []
with_row x (y ∷ ys) = match_ordering (row_cmp x y) (x ∷ y ∷ ys) (y ∷ ys) (y ∷ with_row x ys)

-- rising rows with all of xs among them
abbrev pub with_rows : List Row → List Row → List Row
with_rows [] ys = ys
with_rows (x ∷ xs) ys = with_row x (with_rows xs ys)

-- the rows of A or of B, in order
abbrev pub rows_of_either : Dataset → Dataset → List Row
rows_of_either A B = with_rows (rows A) (rows B)

-- how far the two weights of a row are apart
abbrev pub apart : Dataset → Dataset → Row → Ratio
apart A B x = ratio_abs (ratio_sub (at A x) (at B x))

-- that at each row of A or of B, in row order
abbrev pub dist_terms : Dataset → Dataset → List Ratio
dist_terms A B = map (apart A B) (rows_of_either A B)

-- the sum of these differences
abbrev pub dist : Dataset → Dataset → Ratio
dist A B = ratio_sum (dist_terms A B)

-- the rows of other weight in A than in B, in order
abbrev pub differing : Dataset → Dataset → List Row
differing A B = filter (λ x. is_ne (ratio_cmp (at A x) (at B x))) (rows_of_either A B)

-- ---- changes

-- no rows
unfoldable pub empty : Dataset
unfolding IsStrictlySortedBy
empty = record { entries = []; rising = tt; none_zero = tt }

-- the weight of x is w, and every other row keeps its own
unfoldable pub set_at : Row → Ratio → Dataset → Dataset
set_at x w A = record { entries = set_in x w A.entries; rising = AreRising-set_in x w A.entries A.rising; none_zero = NoneZero-set_in x w A.entries A.none_zero }

-- the weight of x is w more, and every other row keeps its own
abbrev pub add_at : Row → Ratio → Dataset → Dataset
add_at x w A = set_at x (ratio_add (at A x) w) A

-- A with rows of these weights added one by one, from the front of the list
abbrev pub with_added : Dataset → Entries → Dataset
with_added A added = fold (λ B e. add_at e.0 e.1 B) A added

-- the dataset with the weights of entries, of the first where a row has several
unfoldable pub dataset_of : Entries → Dataset
dataset_of [] = empty
dataset_of (e ∷ es) = set_at e.0 e.1 (dataset_of es)

-- ---- what adding runs into

-- the weight that each added row has just after it is added
abbrev pub running_weights : Dataset → Entries → List Ratio
running_weights A [] = []
running_weights A (e ∷ es) = ratio_add (at A e.0) e.1 ∷ running_weights (add_at e.0 e.1 A) es

-- the first place whose running weight is out of range
abbrev pub first_weight_out_of_range : Dataset → Entries → Option ℕ
first_weight_out_of_range A added = position_from (λ q. not (in_range q)) 0 (running_weights A added)

-- q is below 0
abbrev pub is_negative : Ratio → Bool
is_negative q = is_below q zero_ratio

-- the first place whose row has a weight below 0 once all are added
abbrev pub first_negative : Dataset → Entries → Option ℕ
first_negative A added = position_from (λ e. is_negative (at (with_added A added) e.0)) 0 added
