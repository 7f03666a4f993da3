-- Sums of ratios from the front, and whether each of them is in range.
use Rattle.std.specs.Prelude.{ℕ, Bool, not, List, [], ◌∷◌, fold, Option}
use Rattle.std.specs.List.{position_from}
use Rattle.ratios.specs.Ratio.{Ratio, ratio_add, zero_ratio}
use Rattle.ratios.specs.Range.{all_in_range, in_range}

-- the sum from the front
abbrev pub ratio_sum : List Ratio → Ratio
ratio_sum ws = fold ratio_add zero_ratio ws

-- the sums of q and the fronts of a list, each front with one member more
abbrev pub running_sums_after : Ratio → List Ratio → List Ratio
running_sums_after q [] = []
running_sums_after q (w ∷ ws) = ratio_add q w ∷ running_sums_after (ratio_add q w) ws

-- the sums of the fronts of a list, the first of them of one member
abbrev pub running_sums : List Ratio → List Ratio
running_sums ws = running_sums_after zero_ratio ws

-- each sum on the way is in range
abbrev pub runs_in_range : List Ratio → Bool
runs_in_range ws = all_in_range (running_sums ws)

-- the first place whose sum is out of range
abbrev pub first_out_of_range : List Ratio → Option ℕ
first_out_of_range ws = position_from (λ q. not (in_range q)) 0 (running_sums ws)
