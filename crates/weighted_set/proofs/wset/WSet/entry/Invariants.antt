use Rattle.std.proofs.Common.{◌≡◌, ◌<◌, length, slice_get}
use Rattle.weighted_set.proofs.wset.WSet.entry.Given as goal

abbrev pub invariant-loop-row : goal.invariant-loop-row
invariant-loop-row l = record {
  there : slice_get l.row-iterator l.left ≡ slice_get l.fn.self.entries l.fn.at;
  below : l.left < length l.row-iterator;
}
