use Rattle.ratios.proofs.Sums.{IsRunningAt}
use Rattle.session_core.proofs.parts.sum_reply.Given as goal

abbrev pub invariant-loop-at : goal.invariant-loop-at
invariant-loop-at l = IsRunningAt l.weights l.at l.sum
