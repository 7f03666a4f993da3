-- The changes of the outputs of keys.
use Rattle.std.specs.Prelude.{◌≡◌, ◌≢◌, true, All, List}
use Rattle.datasets.specs.Dataset.{Dataset, at}
use Rattle.datasets.specs.Entries.{Row, has_row}
use Rattle.weighted_set.specs.declared.weighted.Change.{Change}
use Rattle.weighted_set.specs.Changes.{changed_rows}

-- the outputs of each key from its parts
abbrev pub outputs_by : (Row → Dataset → Dataset → Dataset) → (Row → Dataset) → (Row → Dataset) → Row → Dataset
outputs_by outputs left right k = outputs k (left k) (right k)

-- each change is of a row that weighs something else among the outputs of its owner after than before, and no such row
-- of a key that is done is missing
pub record AreOutputChanges (owner : Row → Row) (before after : Row → Dataset) (done : List Row) (changes : List Change) : Type 0 where
  pub each : All (λ c. (c.old ≡ at (before (owner c.row)) c.row) × (c.new ≡ at (after (owner c.row)) c.row) × (c.old ≢ c.new)) changes
  pub complete : (x : Row) → has_row done (owner x) ≡ true → at (before (owner x)) x ≢ at (after (owner x)) x → has_row (changed_rows changes) x ≡ true
