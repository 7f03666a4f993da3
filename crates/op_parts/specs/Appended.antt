-- Lists of weighted rows to which rows are appended.
use Rattle.std.specs.Prelude.{◌≡◌, ◌++◌, List}
use Rattle.datasets.specs.Entries.{Entries}
use Rattle.weighted_set.specs.Changes.{entries_of}
use Rattle.weighted_set.specs.declared.weighted.Weighted.{Weighted}

-- the list new is the list old with these rows and weights behind it
abbrev pub Appends : List Weighted → Entries → List Weighted → Type 0
Appends old added new = entries_of new ≡ entries_of old ++ added
