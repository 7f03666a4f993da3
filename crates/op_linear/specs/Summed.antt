-- The sum of the weights of a key's part.
use Rattle.std.specs.Prelude.{Bool, if◌then◌else◌, List, map, Option, Some, None}
use Rattle.ratios.specs.Ratio.{Ratio}
use Rattle.ratios.specs.Sums.{ratio_sum, runs_in_range}
use Rattle.datasets.specs.Dataset.{Dataset}
use Rattle.datasets.specs.Entries.{Row}
use Rattle.op_parts.specs.OneRow.{one_row}
use Rattle.weighted_set.specs.Changes.{entries_of}
use Rattle.weighted_set.specs.declared.weighted.Weighted.{Weighted}

-- the weights in row order
abbrev pub weights : Dataset → List Ratio
weights A = map (λ e. e.1) A.entries

-- the key with the sum of its part's weights, or no row where the sum is 0
abbrev pub summed : Row → Dataset → Dataset
summed k A = one_row k (ratio_sum (weights A))

-- each running sum of the weights is in range
abbrev pub sums_in_range : Dataset → Bool
sums_in_range A = runs_in_range (weights A)

-- the weights of listed rows
abbrev pub weights_of : List Weighted → List Ratio
weights_of list = map (λ e. e.1) (entries_of list)

-- the sum, or nothing where a running sum is out of range
abbrev pub checked_sum : List Ratio → Option Ratio
checked_sum ws = if runs_in_range ws then Some (ratio_sum ws) else None
