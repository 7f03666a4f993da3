-- How many entries are read, put and handed on for a change of inputs.
use Rattle.std.specs.Prelude.{ℕ, ◌+◌, ◌*◌, List, length}
use Rattle.std.specs.List.{sum_by}
use Rattle.datasets.specs.Dataset.{Dataset}
use Rattle.datasets.specs.Entries.{Row}
use Rattle.weighted_set.specs.Parts.{StoreParts, committed_part, pending_part}
use Rattle.weighted_set.specs.declared.weighted.Change.{Change}

-- how many rows a dataset has
abbrev pub size : Dataset → ℕ
size A = length A.entries

-- for a key: its entries before and after, each read once and handed on once
abbrev pub key_ticks : StoreParts → StoreParts → Row → ℕ
key_ticks left right k = 2 * (size (committed_part left k) + size (committed_part right k)) + 2 * (size (pending_part left k) + size (pending_part right k))

-- for keys
abbrev pub keys_ticks : StoreParts → StoreParts → List Row → ℕ
keys_ticks left right ks = sum_by (key_ticks left right) ks

-- for changes: an entry at each key of each changed row
abbrev pub changes_ticks : (Row → Dataset) → List Change → ℕ
changes_ticks keys changes = sum_by (λ c. size (keys c.row)) changes
