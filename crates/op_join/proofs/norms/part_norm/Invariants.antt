use Rattle.std.proofs.Common.{◌≡◌, drop}
use Rattle.ratios.specs.Ratio.{zero_ratio}
use Rattle.weighted_set.proofs.WeightSets.{sum_from}
use Rattle.op_join.proofs.NormSums.{sizes}
use Rattle.op_join.proofs.norms.part_norm.Given as goal

abbrev pub invariant-loop-entry : goal.invariant-loop-entry
invariant-loop-entry l = sum_from zero_ratio (sizes l.part) ≡ sum_from l.sum (drop l.entry-index (sizes l.part))
