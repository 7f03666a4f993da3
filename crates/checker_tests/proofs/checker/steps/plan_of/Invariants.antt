use Rattle.std.proofs.Common.{◌≡◌, ◌+◌, length, true}
use Rattle.std.specs.List.{list_all}
use Rattle.plan_model.specs.Limits.{are_steps, has_sizes}
use Rattle.checker_tests.proofs.checker.steps.plan_of.Given as goal

abbrev pub invariant-loop-of : goal.invariant-loop-of
invariant-loop-of l = record {
  len : length l.steps.items ≡ l.of + 1;
  steps : are_steps 0 l.steps.items ≡ true;
  sizes : list_all has_sizes l.steps.items ≡ true;
}
