use Rattle.plan_checker.proofs.Reached.{IsReached}
use Rattle.plan_checker.proofs.walk.check.Given as goal

abbrev pub invariant-loop-at : goal.invariant-loop-at
invariant-loop-at l = IsReached l.types l.plan l.at l.made.columns.items l.made.signs.items l.made.counts.items
