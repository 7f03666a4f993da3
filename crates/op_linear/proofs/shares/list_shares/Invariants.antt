use Rattle.std.proofs.Common.{◌≡◌, ◌*◌, ◌≤◌, take}
use Rattle.datasets.specs.Entries.{Row}
use Rattle.operators.specs.Operators.{applying, weight_of}
use Rattle.plan_model.specs.Evaluation.{giving}
use Rattle.plan_model.specs.Limits.{max_item_weight}
use Rattle.op_linear.specs.Shares.{AreAboveZero, given, sum_at}
use Rattle.op_linear.proofs.shares.list_shares.Given as goal

abbrev pub invariant-loop-at : goal.invariant-loop-at
invariant-loop-at l = record {
  each : (z : Row) → sum_at l.sums.entries z ≡ given (giving (take l.at l.items)) l.row z;
  above_zero : AreAboveZero l.sums.entries;
  whole : l.total ≡ weight_of (applying (giving (take l.at l.items)) l.row);
  small : l.total ≤ l.at * max_item_weight;
}
