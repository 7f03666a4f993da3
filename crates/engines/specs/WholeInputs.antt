-- What an engine over whole inputs stands for.
use Rattle.std.specs.Prelude.{◌≡◌}
use Rattle.datasets.specs.Dataset.{Dataset}
use Rattle.datasets.specs.Entries.{Row}
use Rattle.weighted_set.specs.Held.{HeldDatasets}
use Rattle.weighted_set.specs.Parts.{StoreParts, committed_part, pending_part}
use Rattle.engines.specs.Standing.{ArePartsOf}

-- the committed rows are those of A and of B
pub record AreCommitted (left right : HeldDatasets) (A B : Dataset) : Type 0 where
  pub left_is : left.committed ≡ A
  pub right_is : right.committed ≡ B

-- the pending rows are those of A and of B
pub record ArePending (left right : HeldDatasets) (A B : Dataset) : Type 0 where
  pub left_is : left.pending ≡ A
  pub right_is : right.pending ≡ B

-- nothing is pending
pub record HaveSettled (left right : HeldDatasets) : Type 0 where
  pub left_same : left.pending ≡ left.committed
  pub right_same : right.pending ≡ right.committed

-- the store has the parts of A, and nothing is pending in it
pub record IsMadeOf (keys : Row → Dataset) (A : Dataset) (store : StoreParts) : Type 0 where
  pub parts : ArePartsOf keys (committed_part store) A
  pub settled : (k : Row) → pending_part store k ≡ committed_part store k
