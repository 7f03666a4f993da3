use Rattle.std.proofs.Common.{◌≡◌, take, true}
use Rattle.std.specs.List.{list_all}
use Rattle.plan_checker.specs.Steps.{row_has_kinds}
use Rattle.plan_checker.proofs.items.rows_have_kinds.Given as goal

abbrev pub invariant-loop-i : goal.invariant-loop-i
invariant-loop-i l = list_all (row_has_kinds l.cols l.first) (take l.i l.items) ≡ true
