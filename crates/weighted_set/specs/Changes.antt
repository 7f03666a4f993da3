-- Lists of changes of weights.
use Rattle.std.specs.Prelude.{◌≡◌, ◌≢◌, All, IsTrue, List, map, fold}
use Rattle.datasets.specs.Entries.{Row, Entries, AreRising, has_row}
use Rattle.datasets.specs.Dataset.{Dataset, at, set_at}
use Rattle.weighted_set.specs.declared.weighted.Change.{Change}
use Rattle.weighted_set.specs.declared.weighted.Weighted.{Weighted}

-- the rows and weights as pairs
abbrev pub entries_of : List Weighted → Entries
entries_of added = map (λ e. (e.row, e.weight)) added

-- the rows of changes
abbrev pub changed_rows : List Change → List Row
changed_rows changes = map (λ c. c.row) changes

-- what changes each row from its weight in A to its weight in B: rows in order, all that differ and no other
pub record IsChangeList (changes : List Change) (A B : Dataset) : Type 0 where
  pub rising : AreRising (changed_rows changes)
  pub each : All (λ c. (c.old ≡ at A c.row) × (c.new ≡ at B c.row) × (c.old ≢ c.new)) changes
  pub complete : (x : Row) → at A x ≢ at B x → IsTrue (has_row (changed_rows changes) x)

-- changes that can be made to A: rows in order, each from its weight in A to another one
pub record AreChangesOf (changes : List Change) (A : Dataset) : Type 0 where
  pub rising : AreRising (changed_rows changes)
  pub each : All (λ c. (c.old ≡ at A c.row) × (c.old ≢ c.new)) changes

-- A with each changed row at its new weight
abbrev pub applied : Dataset → List Change → Dataset
applied A changes = fold (λ B c. set_at c.row c.new B) A changes
