use Rattle.std.proofs.Common.{◌≡◌, take, length}
use Rattle.plan_model.specs.Sizes.{max_width}
use Rattle.plan_model.specs.Types.{kinds_over}
use Rattle.plan_checker.proofs.exprs.kinds_over.Given as goal

abbrev pub invariant-loop-i : goal.invariant-loop-i
invariant-loop-i l = (length l.kinds ≡ max_width) × (take l.i l.kinds ≡ take l.i (kinds_over l.cols l.es))
