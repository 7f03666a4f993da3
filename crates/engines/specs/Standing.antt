-- What an engine by key stands for.
use Rattle.std.specs.Prelude.{◌≡◌, ◌||◌, false, true, List}
use Rattle.datasets.specs.Dataset.{Dataset}
use Rattle.datasets.specs.Entries.{AreRising, Row, has_row}
use Rattle.weighted_set.specs.declared.weighted.Change.{Change}
use Rattle.weighted_set.specs.Changes.{applied}
use Rattle.weighted_set.specs.Parts.{part_of}
use Rattle.weighted_set.specs.Parts.{StoreParts, committed_part, pending_part}
use Rattle.engines.specs.Products.{changes_in_range}
use Rattle.engines.specs.Touched.{changed_keys}

-- each key has its part of A
abbrev pub ArePartsOf : (Row → Dataset) → (Row → Dataset) → Dataset → Type 0
ArePartsOf keys parts A = (k : Row) → parts k ≡ part_of keys k A

-- each key has its parts of A and of B
pub record HoldParts (left_keys right_keys left right : Row → Dataset) (A B : Dataset) : Type 0 where
  pub of_left : ArePartsOf left_keys left A
  pub of_right : ArePartsOf right_keys right B

-- nothing is pending
pub record AreSettled (left right : StoreParts) : Type 0 where
  pub left_same : (k : Row) → pending_part left k ≡ committed_part left k
  pub right_same : (k : Row) → pending_part right k ≡ committed_part right k

-- the stores hold the parts of A and of B, and nothing is pending
pub record HoldSettled (left_keys right_keys : Row → Dataset) (left right : StoreParts) (A B : Dataset) : Type 0 where
  pub held : HoldParts left_keys right_keys (committed_part left) (committed_part right) A B
  pub settled : AreSettled left right

-- the changes are pending, their products are in range, only touched keys have another pending part than before, and
-- the touched keys are those of the changed rows, in order and each once
pub record PutInputs (left_keys right_keys : Row → Dataset) (left right : List Change) (old_left old_right new_left new_right : StoreParts) (touched : List Row) : Type 0 where
  pub left_committed : (k : Row) → committed_part new_left k ≡ committed_part old_left k
  pub right_committed : (k : Row) → committed_part new_right k ≡ committed_part old_right k
  pub left_pending : (A : Dataset) → ArePartsOf left_keys (pending_part old_left) A → ArePartsOf left_keys (pending_part new_left) (applied A left)
  pub right_pending : (B : Dataset) → ArePartsOf right_keys (pending_part old_right) B → ArePartsOf right_keys (pending_part new_right) (applied B right)
  pub left_products : changes_in_range left_keys left ≡ true
  pub right_products : changes_in_range right_keys right ≡ true
  pub untouched : (k : Row) → has_row touched k ≡ false → (pending_part new_left k ≡ pending_part old_left k) × (pending_part new_right k ≡ pending_part old_right k)
  pub rising : AreRising touched
  pub changed : (k : Row) → has_row touched k ≡ (has_row (changed_keys left_keys left) k || has_row (changed_keys right_keys right) k)
