-- The keys that changes touch.
use Rattle.std.specs.Prelude.{List, flat_map}
use Rattle.datasets.specs.Dataset.{Dataset, rows}
use Rattle.datasets.specs.Entries.{Row}
use Rattle.weighted_set.specs.declared.weighted.Change.{Change}

-- the keys of the changed rows, in the order of the changes
abbrev pub changed_keys : (Row → Dataset) → List Change → List Row
changed_keys keys changes = flat_map (λ c. rows (keys c.row)) changes
