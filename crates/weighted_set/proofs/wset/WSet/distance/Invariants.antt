use Rattle.std.proofs.Common.{◌≡◌, ◌+◌, length}
use Rattle.weighted_set.specs.Sizes.{checked_distance}
use Rattle.weighted_set.proofs.WalkedDistance.{ahead, distance_from, gaps}
use Rattle.weighted_set.proofs.wset.WSet.distance.Given as goal

abbrev pub invariant-loop-lower : goal.invariant-loop-lower
invariant-loop-lower l = checked_distance l.fn.self l.fn.other ≡ distance_from l.sum (gaps (ahead l.first l.left) (ahead l.second l.right))

abbrev pub decreases-loop-lower : goal.decreases-loop-lower
decreases-loop-lower l = length (ahead l.first l.left) + length (ahead l.second l.right)
