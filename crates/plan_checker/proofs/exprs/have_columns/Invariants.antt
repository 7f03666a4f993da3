use Rattle.std.proofs.Common.{◌≡◌, take, true}
use Rattle.plan_model.specs.Acceptance.{have_columns}
use Rattle.plan_checker.proofs.exprs.have_columns.Given as goal

abbrev pub invariant-loop-i : goal.invariant-loop-i
invariant-loop-i l = have_columns l.cols (take l.i l.es) ≡ true
