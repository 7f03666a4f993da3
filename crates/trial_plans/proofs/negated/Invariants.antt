use Rattle.std.proofs.Common.{◌≡◌}
use Rattle.std.specs.String.{string_bytes}
use Rattle.trial_plans.specs.Texts.{negated_text}
use Rattle.trial_plans.proofs.negated.Given as goal

abbrev pub invariant-loop : goal.invariant-loop
invariant-loop l = string_bytes l.text ≡ negated_text l.counter l.expr
