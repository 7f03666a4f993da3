use Rattle.std.proofs.Common.{◌≡◌, ◌+◌, ◌≤◌, ◌++◌, false, true, take}
use Rattle.datasets.specs.Dataset.{Dataset}
use Rattle.datasets.specs.Entries.{Row, has_row}
use Rattle.weighted_set.specs.Changes.{applied}
use Rattle.engines.specs.Products.{changes_in_range}
use Rattle.engines.specs.Ticks.{changes_ticks}
use Rattle.engines.specs.Touched.{changed_keys}
use Rattle.engines.specs.Standing.{ArePartsOf}
use Rattle.weighted_set.specs.Parts.{committed_part, pending_part}
use Rattle.engines.proofs.inputs.put_changes.Given as goal

abbrev pub invariant-loop-change : goal.invariant-loop-change
invariant-loop-change g l = record {
  committed : (k : Row) → committed_part l.store k ≡ committed_part l.fn.store k;
  pending : (A : Dataset) → ArePartsOf (g.O.PartOp.keys l.op l.side) (pending_part l.fn.store) A → ArePartsOf (g.O.PartOp.keys l.op l.side) (pending_part l.store) (applied A (take l.change-index l.changes));
  touched : (k : Row) → has_row l.touched.items k ≡ false → (has_row l.fn.touched.items k ≡ false) × (pending_part l.store k ≡ pending_part l.fn.store k);
  noted : l.touched.items ≡ l.fn.touched.items ++ changed_keys (g.O.PartOp.keys l.op l.side) (take l.change-index l.changes);
  fits : changes_in_range (g.O.PartOp.keys l.op l.side) (take l.change-index l.changes) ≡ true;
  ticks : l.steps ≤ l.fn.steps + changes_ticks (g.O.PartOp.keys l.op l.side) (take l.change-index l.changes);
}
