use Rattle.std.proofs.Common.{◌≡◌, take, true}
use Rattle.std.specs.Prelude.{option_to_list}
use Rattle.std.specs.List.{list_all}
use Rattle.plan_model.specs.Acceptance.{are_ints}
use Rattle.plan_checker.proofs.items.guards_are_ints.Given as goal

abbrev pub invariant-loop-i : goal.invariant-loop-i
invariant-loop-i l = list_all (λ item. are_ints l.cols (option_to_list item.guard)) (take l.i l.items) ≡ true
