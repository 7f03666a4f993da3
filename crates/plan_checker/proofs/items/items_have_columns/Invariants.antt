use Rattle.std.proofs.Common.{◌≡◌, ◌++◌, take, true}
use Rattle.std.specs.Prelude.{option_to_list}
use Rattle.std.specs.List.{list_all}
use Rattle.plan_model.specs.Acceptance.{have_columns}
use Rattle.plan_checker.proofs.items.items_have_columns.Given as goal

abbrev pub invariant-loop-i : goal.invariant-loop-i
invariant-loop-i l = list_all (λ item. have_columns l.cols (option_to_list item.guard ++ item.row)) (take l.i l.items) ≡ true
