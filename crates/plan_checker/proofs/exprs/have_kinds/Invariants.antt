use Rattle.std.proofs.Common.{◌≡◌, take, true}
use Rattle.plan_model.specs.Acceptance.{have_kinds}
use Rattle.plan_checker.proofs.exprs.have_kinds.Given as goal

abbrev pub invariant-loop-i : goal.invariant-loop-i
invariant-loop-i l = have_kinds l.cols (take l.i l.es) ≡ true
