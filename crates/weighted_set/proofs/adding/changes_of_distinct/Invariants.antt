use Rattle.std.proofs.Common.{take}
use Rattle.weighted_set.proofs.DistinctRows.{AreAddedChanges}
use Rattle.weighted_set.proofs.adding.changes_of_distinct.Given as goal

abbrev pub invariant-loop-one : goal.invariant-loop-one
invariant-loop-one l = AreAddedChanges l.set.committed l.signed (take l.one-index l.added) l.changes.items
