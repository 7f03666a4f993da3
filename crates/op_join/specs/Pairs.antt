-- The entries that pairs of listed rows make.
use Rattle.std.specs.Prelude.{◌+◌, ◌≤◌, ◌++◌, All, Bool, List, Option, flat_map, length, map}
use Rattle.std.specs.List.{list_all}
use Rattle.ratios.specs.Range.{checked, in_range}
use Rattle.ratios.specs.Ratio.{Ratio, ratio_div, ratio_mul}
use Rattle.datasets.specs.Entries.{Entries, Row}
use Rattle.plan_model.specs.Sizes.{max_width}
use Rattle.weighted_set.specs.declared.weighted.Weighted.{Weighted}

-- the product of two weights divided by d, or nothing where it is out of range
abbrev pub checked_weight : Ratio → Ratio → Ratio → Option Ratio
checked_weight d w v = checked (ratio_div (ratio_mul w v) d)

-- a row followed by another, with the product of their weights divided by d
abbrev pub pair_entry : Ratio → Weighted → Weighted → Row × Ratio
pair_entry d x y = (x.row ++ y.row, ratio_div (ratio_mul x.weight y.weight) d)

-- that of one row with each of a list
abbrev pub row_pairs : Ratio → Weighted → List Weighted → Entries
row_pairs d x right = map (pair_entry d x) right

-- that of each row of a list with each of another
abbrev pub all_pairs : Ratio → List Weighted → List Weighted → Entries
all_pairs d left right = flat_map (λ x. row_pairs d x right) left

-- each weight is in range
abbrev pub entries_in_range : Entries → Bool
entries_in_range es = list_all (λ e. in_range e.1) es

-- each weight of the pairs of one row, or of all rows, is in range
abbrev pub row_in_range : Ratio → Weighted → List Weighted → Bool
row_in_range d x right = entries_in_range (row_pairs d x right)

abbrev pub pairs_in_range : Ratio → List Weighted → List Weighted → Bool
pairs_in_range d left right = entries_in_range (all_pairs d left right)

-- a row followed by another is no wider than a row may be
abbrev pub IsNarrow : Weighted → Weighted → Type 0
IsNarrow x y = length x.row + length y.row ≤ max_width

-- so is one followed by any of a list
abbrev pub FollowNarrowly : List Weighted → Weighted → Type 0
FollowNarrowly right x = All (IsNarrow x) right
