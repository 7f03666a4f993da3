use Rattle.std.proofs.Common.{◌≡◌, ◌++◌}
use Rattle.weighted_set.specs.Held.{held_changes}
use Rattle.weighted_set.proofs.adding.changes_in.Given as goal

abbrev pub invariant-loop-row : goal.invariant-loop-row
invariant-loop-row l = l.changes.items ++ held_changes l.row-iterator ≡ held_changes l.fn.running.entries
