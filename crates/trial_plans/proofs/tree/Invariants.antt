use Rattle.std.proofs.Common.{◌≡◌, ◌-◌, ◌≤◌}
use Rattle.std.specs.String.{string_bytes}
use Rattle.trial_plans.specs.Texts.{tree_text}
use Rattle.trial_plans.proofs.tree.Given as goal

abbrev pub invariant-loop : goal.invariant-loop
invariant-loop l = (string_bytes l.text ≡ tree_text (l.counter - 1)) × (l.counter - 1 ≤ l.depth - 1)
