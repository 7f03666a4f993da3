use Rattle.std.proofs.Common.{◌≡◌, ◌+◌}
use Rattle.op_parts.proofs.lists.tick_each.Given as goal

abbrev pub invariant-loop : goal.invariant-loop
invariant-loop g l = l.steps ≡ l.fn.steps + l.index
