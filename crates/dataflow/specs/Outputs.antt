-- A store that keeps the rows of one dataset, each under itself as the key.
use Rattle.std.specs.Prelude.{◌≡◌}
use Rattle.datasets.specs.Dataset.{Dataset, at}
use Rattle.datasets.specs.Entries.{Row}

-- each row has its weight in A under its own key
abbrev pub HoldRows : (Row → Dataset) → Dataset → Type 0
HoldRows parts A = (x : Row) → at (parts x) x ≡ at A x
