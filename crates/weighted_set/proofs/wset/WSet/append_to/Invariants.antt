use Rattle.std.proofs.Common.{◌≡◌, ◌+◌, ◌++◌, ◌≤◌, length}
use Rattle.std.specs.Vec.{vec_capacity, vec_len}
use Rattle.weighted_set.specs.Changes.{entries_of}
use Rattle.weighted_set.proofs.wset.WSet.append_to.Given as goal

-- the rows that are listed, and those to come, are what was listed before and the whole set
abbrev pub invariant-loop-row : goal.invariant-loop-row
invariant-loop-row l = record {
  listed : entries_of l.into.items ++ l.row-iterator ≡ entries_of l.fn.into.items ++ l.fn.self.entries;
  room : vec_len l.into + length l.row-iterator ≤ vec_capacity l.into;
}
