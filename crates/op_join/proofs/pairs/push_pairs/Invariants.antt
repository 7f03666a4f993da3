use Rattle.std.proofs.Common.{◌≡◌, ◌++◌, take, true}
use Rattle.weighted_set.specs.Changes.{entries_of}
use Rattle.op_join.specs.Pairs.{all_pairs, entries_in_range}
use Rattle.op_join.proofs.pairs.push_pairs.Given as goal

abbrev pub invariant-loop-entry : goal.invariant-loop-entry
invariant-loop-entry l = record {
  pushed : entries_of l.into.items ≡ entries_of l.fn.into.items ++ all_pairs l.norms (take l.entry-index l.left) l.right;
  in_range : entries_in_range (all_pairs l.norms (take l.entry-index l.left) l.right) ≡ true;
}
