use Rattle.op_linear.specs.Summed.{weights_of}
use Rattle.op_linear.proofs.RunningSums.{IsSumAt}
use Rattle.op_linear.proofs.sums.sum_of.Given as goal

abbrev pub invariant-loop-entry : goal.invariant-loop-entry
invariant-loop-entry l = IsSumAt (weights_of l.list) l.entry-index l.sum
