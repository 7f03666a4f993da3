use Rattle.std.proofs.Common.{◌≡◌, ◌++◌, length, take}
use Rattle.weighted_set.specs.Changes.{entries_of}
use Rattle.op_parts.proofs.lists.push_rows.Given as goal

abbrev pub invariant-loop-entry : goal.invariant-loop-entry
invariant-loop-entry l = record {
  pushed : entries_of l.into.items ≡ entries_of l.fn.into.items ++ entries_of (take l.entry-index l.list);
  before : l.before ≡ length l.fn.into.items;
}
