use Rattle.std.proofs.Common.{◌≡◌, ◌++◌}
use Rattle.weighted_set.proofs.AllChanges.{new_changes}
use Rattle.weighted_set.specs.Held.{committed_of}
use Rattle.weighted_set.proofs.Sets.{entries_by}
use Rattle.weighted_set.proofs.held.all_changes.Given as goal

abbrev pub invariant-loop-row : goal.invariant-loop-row
invariant-loop-row l = l.changes.items ++ new_changes (entries_by (λ h. h.committed) l.row-iterator) ≡ new_changes (committed_of l.fn.table.entries).entries
