use Rattle.std.proofs.Common.{◌≡◌, map}
use Rattle.std.specs.List.{range_with_len}
use Rattle.plan_model.specs.Uses.{uses_step}
use Rattle.plan_checker.specs.Steps.{counts_of}
use Rattle.plan_checker.proofs.counts.counts_step.Given as goal

abbrev pub invariant-loop-source : goal.invariant-loop-source
invariant-loop-source l = l.list.items ≡ map (λ source. uses_step l.types source l.step (counts_of source l.made)) (range_with_len 0 l.source)
