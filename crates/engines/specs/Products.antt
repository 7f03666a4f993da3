-- New weights times the factors of their rows' keys.
use Rattle.std.specs.Prelude.{Bool, if◌then◌else◌, List}
use Rattle.std.specs.List.{list_all}
use Rattle.ratios.specs.Range.{in_range}
use Rattle.ratios.specs.Ratio.{Ratio, ratio_mul}
use Rattle.datasets.specs.Dataset.{Dataset, set_at}
use Rattle.datasets.specs.Entries.{Entries, Row, has_row, rows_of, weight_in}
use Rattle.weighted_set.specs.declared.weighted.Change.{Change}

-- w times each of these factors is in range
abbrev pub products_in_range : Ratio → Entries → Bool
products_in_range w factors = list_all (λ e. in_range (ratio_mul w e.1)) factors

-- each new weight times each factor of its row is in range
abbrev pub changes_in_range : (Row → Dataset) → List Change → Bool
changes_in_range keys changes = list_all (λ c. products_in_range c.new (keys c.row).entries) changes

-- the part of each key, with w times its factor as the weight of x where the key is one of these
abbrev pub with_products : Row → Ratio → Entries → (Row → Dataset) → Row → Dataset
with_products x w factors parts k = if has_row (rows_of factors) k then set_at x (ratio_mul w (weight_in factors k)) (parts k) else parts k
