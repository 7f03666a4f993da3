use Rattle.std.proofs.Common.{◌≡◌, ◌+◌, ◌≤◌, true, take}
use Rattle.datasets.specs.Entries.{Row, has_row}
use Rattle.engines.specs.Ticks.{keys_ticks}
use Rattle.engines.specs.Staging.{AreOutputChanges, outputs_by}
use Rattle.weighted_set.specs.Parts.{committed_part, pending_part}
use Rattle.engines.proofs.outputs.stage_keys.Given as goal

abbrev pub invariant-loop-key : goal.invariant-loop-key
invariant-loop-key g l =
    let op = g.O.PartOp in
    record {
      staged : AreOutputChanges (op.owner l.op) (outputs_by (op.outputs l.op) (committed_part l.left) (committed_part l.right)) (outputs_by (op.outputs l.op) (pending_part l.left) (pending_part l.right)) (take l.key-index l.keys) l.changes.items;
      fits : (k : Row) → has_row (take l.key-index l.keys) k ≡ true → op.part_fits l.op k (pending_part l.left k) (pending_part l.right k) ≡ true;
      ticks : l.steps ≤ l.fn.steps + keys_ticks l.left l.right (take l.key-index l.keys);
    }
