-- A set of a list, lent to be changed.
use Rattle.std.specs.Prelude.{ℕ, List, slice_set}
use Rattle.std.specs.Borrow.{Lends, MutBor, Fml}
use Rattle.weighted_set.specs.contracts.set.HeldSet as held_set
use Rattle.weighted_set.specs.contracts.source_set.SourceSet as source_set
use Rattle.weighted_set.specs.Held.{HeldDatasets}

-- the list ends with its set at i as the last value behind r
abbrev pub LendsSetAt : MutBor (List HeldDatasets) → ℕ → MutBor HeldDatasets → Fml
LendsSetAt s i r = Lends source_set.the_row held_set.the_row s r (slice_set s.now i)
