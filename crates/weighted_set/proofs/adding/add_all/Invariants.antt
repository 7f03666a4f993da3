use Rattle.weighted_set.proofs.Running.{IsRunningAt}
use Rattle.weighted_set.proofs.adding.add_all.Given as goal

abbrev pub invariant-loop-at : goal.invariant-loop-at
invariant-loop-at l = IsRunningAt l.set.committed l.added l.at l.running.entries
