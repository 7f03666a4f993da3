-- The parts of a dataset by key, stores of parts, and lists of weighted rows as datasets.
use Rattle.std.specs.Prelude.{◌≡◌, ◌≢◌, if◌then◌else◌, List, unwrap_or, map}
use Rattle.std.specs.Map.{lookup}
use Rattle.ratios.specs.Ratio.{Ratio, ratio_mul}
use Rattle.datasets.specs.Dataset.{Dataset, empty, set_at, at, dataset_of}
use Rattle.datasets.specs.Entries.{Row, same_row}
use Rattle.weighted_set.specs.declared.held.View.{View}
use Rattle.weighted_set.specs.Held.{HeldDatasets, viewed}
use Rattle.ratios.specs.Range.{InRange}
use Rattle.weighted_set.specs.Changes.{entries_of}
use Rattle.weighted_set.specs.declared.weighted.Weighted.{Weighted}

-- ---- stores of weights by key and row

-- keys, each with the two datasets of its part; contracts speak of the part of a key alone
abbrev pub StoreParts : Type 0
StoreParts = List (Row × HeldDatasets)

-- a part without rows
abbrev pub empty_part : HeldDatasets
empty_part = record { committed = empty; pending = empty }

-- the part of a key, without rows where the key is absent
abbrev pub part_at : StoreParts → Row → HeldDatasets
part_at parts key = unwrap_or (lookup (same_row key) parts) empty_part

-- the committed rows and weights of a key
abbrev pub committed_part : StoreParts → Row → Dataset
committed_part parts key = (part_at parts key).committed

-- the rows and weights of a key once what is pending is committed
abbrev pub pending_part : StoreParts → Row → Dataset
pending_part parts key = (part_at parts key).pending

-- the rows and weights of a key in a view
abbrev pub part_in : View → StoreParts → Row → Dataset
part_in view parts key = viewed view (part_at parts key)

-- the weight of a row is w at one key, and every other weight stays
abbrev pub set_at_key : Row → Row → Ratio → (Row → Dataset) → Row → Dataset
set_at_key key row w parts k = if same_row k key then set_at row w (parts k) else parts k

-- every key's committed part stays
abbrev pub SameCommitted : StoreParts → StoreParts → Type 0
SameCommitted old new = (k : Row) → committed_part new k ≡ committed_part old k

-- every key's pending part stays
abbrev pub SamePending : StoreParts → StoreParts → Type 0
SamePending old new = (k : Row) → pending_part new k ≡ pending_part old k

-- once put, the pending weight of the row is w at the key, and every other pending weight stays
abbrev pub PendsAt : Row → Row → Ratio → StoreParts → StoreParts → Type 0
PendsAt key row w old new = (k : Row) → pending_part new k ≡ set_at_key key row w (pending_part old) k

-- every key's part in the view stays
abbrev pub SameInView : View → StoreParts → StoreParts → Type 0
SameInView view old new = (k : Row) → part_in view new k ≡ part_in view old k

-- a part that is kept with nothing pending has rows
abbrev pub IsSettledPart : HeldDatasets → Type 0
IsSettledPart part = (part.pending ≡ part.committed) × (part.committed ≢ empty)

-- ---- the parts of a dataset

-- the part of the key k: each row's weight times the row's factor at k
abbrev pub part_of : (Row → Dataset) → Row → Dataset → Dataset
part_of keys k A = dataset_of (map (λ e. (e.0, ratio_mul e.1 (at (keys e.0) k))) A.entries)

-- each weight times each of its row's factors is in range
abbrev pub FactoredInRange : (Row → Dataset) → Dataset → Type 0
FactoredInRange keys A = (x k : Row) → InRange (ratio_mul (at A x) (at (keys x) k))

-- the dataset of listed rows
abbrev pub listed : List Weighted → Dataset
listed list = dataset_of (entries_of list)

-- the list has a dataset's entries: rows in order, none of weight 0
abbrev pub IsListed : List Weighted → Type 0
IsListed list = (listed list).entries ≡ entries_of list
