use Rattle.std.proofs.Common.{◌≡◌, ◌++◌, Some, take, true}
use Rattle.weighted_set.specs.Changes.{entries_of}
use Rattle.op_join.specs.Pairs.{checked_weight, entries_in_range, row_pairs}
use Rattle.op_join.proofs.pairs.push_row_pairs.Given as goal

abbrev pub invariant-loop-other : goal.invariant-loop-other
invariant-loop-other l = record {
  pushed : entries_of l.into.items ≡ entries_of l.fn.into.items ++ row_pairs l.norms l.entry (take l.other-index l.right);
  in_range : entries_in_range (row_pairs l.norms l.entry (take l.other-index l.right)) ≡ true;
  known : Some l.known.1 ≡ checked_weight l.norms l.entry.weight l.known.0;
}
