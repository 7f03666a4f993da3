use Rattle.std.proofs.Common.{◌≡◌, ◌+◌, ◌++◌, length}
use Rattle.weighted_set.specs.Changes.{entries_of}
use Rattle.weighted_set.specs.Held.{held_changes}
use Rattle.weighted_set.specs.Merging.{both, merged}
use Rattle.weighted_set.proofs.changed.push_changes.Given as goal

abbrev pub invariant-loop-lower : goal.invariant-loop-lower
invariant-loop-lower l =
    l.into.items ++ held_changes (merged both (entries_of l.left) (entries_of l.right)) ≡ l.fn.into.items ++ held_changes (merged both (entries_of l.before) (entries_of l.after))

abbrev pub decreases-loop-lower : goal.decreases-loop-lower
decreases-loop-lower l = length l.left + length l.right
