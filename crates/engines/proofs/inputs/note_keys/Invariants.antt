use Rattle.std.proofs.Common.{◌≡◌, ◌++◌}
use Rattle.std.specs.Vec.Iter.{DrainKeeps, drain_items}
use Rattle.datasets.specs.Entries.{rows_of}
use Rattle.weighted_set.specs.Changes.{entries_of}
use Rattle.engines.proofs.inputs.note_keys.Given as goal

abbrev pub invariant-loop-key : goal.invariant-loop-key
invariant-loop-key l = record {
  can_next : (goal.iterator-loop-key).can_next l.key-iterator;
  is_finite : (goal.iterator-loop-key).is_finite l.key-iterator;
  keeps : DrainKeeps l.initial.key-iterator l.key-iterator;
  noted : l.touched.items ++ rows_of (entries_of (drain_items l.key-iterator)) ≡ l.fn.touched.items ++ rows_of (entries_of (drain_items l.initial.key-iterator));
}
