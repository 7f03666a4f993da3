use Rattle.std.proofs.Common.{◌≡◌, ◌+◌, take}
use Rattle.datasets.specs.Dataset.{Dataset}
use Rattle.datasets.specs.Entries.{Row}
use Rattle.weighted_set.specs.Changes.{applied}
use Rattle.weighted_set.specs.Parts.{committed_part, pending_part}
use Rattle.dataflow.specs.Outputs.{HoldRows}
use Rattle.dataflow.proofs.rows.put_rows.Given as goal

abbrev pub invariant-loop-change : goal.invariant-loop-change
invariant-loop-change g l = record {
  committed : (k : Row) → committed_part l.out k ≡ committed_part l.fn.out k;
  pending : (A : Dataset) → HoldRows (pending_part l.fn.out) A → HoldRows (pending_part l.out) (applied A (take l.change-index l.changes));
  ticks : l.steps ≡ l.fn.steps + l.change-index;
}
