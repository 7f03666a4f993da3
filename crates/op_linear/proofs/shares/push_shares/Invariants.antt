use Rattle.std.proofs.Common.{◌≡◌, ◌++◌}
use Rattle.weighted_set.specs.Changes.{entries_of}
use Rattle.op_linear.specs.Shares.{divided}
use Rattle.op_linear.proofs.shares.push_shares.Given as goal

abbrev pub invariant-loop-row : goal.invariant-loop-row
invariant-loop-row l = entries_of l.into.items ++ divided l.divisor l.row-iterator ≡ entries_of l.fn.into.items ++ divided l.divisor l.fn.sums.entries
