use Rattle.std.proofs.Common.{◌≡◌}
use Rattle.weighted_set.specs.Sizes.{checked_norm}
use Rattle.weighted_set.proofs.WeightSets.{sizes_of, sum_from}
use Rattle.weighted_set.proofs.wset.WSet.norm.Given as goal

abbrev pub invariant-loop-weight : goal.invariant-loop-weight
invariant-loop-weight l = checked_norm l.fn.self ≡ sum_from l.sum (sizes_of l.weight-iterator)
