use Rattle.std.proofs.Common.{◌≡◌, ◌++◌, take, length}
use Rattle.plan_model.specs.Sizes.{max_width}
use Rattle.plan_checker.proofs.columns.appended.Given as goal

abbrev pub invariant-loop-i : goal.invariant-loop-i
invariant-loop-i l = (length l.kinds ≡ max_width) × (take l.i l.kinds ≡ take l.i (l.left ++ l.right))
