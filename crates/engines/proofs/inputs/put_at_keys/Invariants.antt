use Rattle.std.proofs.Common.{◌≡◌, ◌+◌, ◌≤◌, true, cond, take}
use Rattle.ratios.specs.Ratio.{ratio_mul}
use Rattle.datasets.specs.Dataset.{set_at}
use Rattle.datasets.specs.Entries.{Row, has_row, rows_of, weight_in}
use Rattle.weighted_set.specs.Changes.{entries_of}
use Rattle.weighted_set.specs.Parts.{committed_part, pending_part}
use Rattle.engines.specs.Products.{products_in_range}
use Rattle.engines.proofs.inputs.put_at_keys.Given as goal

abbrev pub invariant-loop-key : goal.invariant-loop-key
invariant-loop-key g l = record {
  committed : (k : Row) → committed_part l.store k ≡ committed_part l.fn.store k;
  pending : (k : Row) → pending_part l.store k ≡ cond (has_row (rows_of (entries_of (take l.key-index l.keys))) k) (set_at l.change.row (ratio_mul l.change.new (weight_in (entries_of l.keys) k)) (pending_part l.fn.store k)) (pending_part l.fn.store k);
  fits : products_in_range l.change.new (entries_of (take l.key-index l.keys)) ≡ true;
  ticks : l.steps ≤ l.fn.steps + l.key-index;
}
