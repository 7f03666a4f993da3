use Rattle.std.proofs.Common.{◌≡◌, ◌-◌, ◌≤◌}
use Rattle.std.specs.String.{string_bytes}
use Rattle.trial_plans.specs.Texts.{followed}
use Rattle.trial_plans.proofs.listed.Given as goal

abbrev pub invariant-loop : goal.invariant-loop
invariant-loop l = (string_bytes l.list ≡ followed (l.counter - 1) l.text) × (l.counter - 1 ≤ l.times - 1)
