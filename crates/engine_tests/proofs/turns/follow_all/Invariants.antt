use Rattle.std.proofs.Common.{◌≡◌}
use Rattle.engine_tests.specs.Trials.{Serves}
use Rattle.engine_tests.proofs.turns.follow_all.Given as goal

abbrev pub invariant-loop-turn : goal.invariant-loop-turn
invariant-loop-turn g l =
    (l.left.pending ≡ l.left.committed) × (l.right.pending ≡ l.right.committed) × Serves g.E.Operator.standing l.engine l.left.committed l.right.committed
