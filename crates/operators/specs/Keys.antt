-- The keys of a row, each with the factor by which the row's weight counts at the key.
use Rattle.std.specs.Prelude.{ℕ, Bool, List, [], ◌∷◌, if◌then◌else◌, map}
use Rattle.ratios.specs.Ratio.{Ratio, one_ratio}
use Rattle.datasets.specs.Dataset.{Dataset, dataset_of, empty}
use Rattle.datasets.specs.Entries.{Row}
use Rattle.operators.specs.Weights.{tabulated}
use Rattle.operators.specs.Operators.{Giving, applying, factor}

-- the row x with the weight w, or no row where w is 0
abbrev pub one_row : Row → Ratio → Dataset
one_row x w = dataset_of ((x, w) ∷ [])

-- one key, with the factor 1
abbrev pub one_key : Row → Dataset
one_key k = one_row k one_ratio

-- a row that passes a test is its own key, and another has none
abbrev pub passing_key : (Row → Bool) → Row → Dataset
passing_key test x = if test x then one_key x else empty

-- the rows that items make of the row y, each with its factor
abbrev pub shares : ℕ → List Giving → Row → Dataset
shares over items y = tabulated (factor over items y) (map (λ i. i.row y) (applying items y))
