use Rattle.std.proofs.Common.{◌≡◌, ◌<◌, length, slice_get}
use Rattle.weighted_set.proofs.Sets.{entries_by}
use Rattle.weighted_set.proofs.held.entry_at.Given as goal

abbrev pub invariant-loop-row : goal.invariant-loop-row
invariant-loop-row l =
    let committed = entries_by (λ h. h.committed) in
    record {
      there : slice_get (committed l.row-iterator) l.left ≡ slice_get (committed l.fn.table.entries) l.fn.place;
      below : l.left < length (committed l.row-iterator);
    }
