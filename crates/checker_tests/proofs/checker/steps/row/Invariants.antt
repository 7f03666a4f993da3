use Rattle.std.proofs.Common.{◌≡◌, length, true}
use Rattle.plan_model.specs.Limits.{are_exprs}
use Rattle.checker_tests.proofs.checker.steps.row.Given as goal

abbrev pub invariant-loop-i : goal.invariant-loop-i
invariant-loop-i l = (length l.list.items ≡ l.i) × (are_exprs l.list.items ≡ true)
