use Rattle.std.proofs.Common.{All, take}
use Rattle.operator_tests.specs.Keys.{IsOfKey}
use Rattle.operator_tests.proofs.grouped_parts.are_of_key.Given as goal

abbrev pub invariant-loop-entry : goal.invariant-loop-entry
invariant-loop-entry l = All (λ e. IsOfKey l.exprs l.key e.row) (take l.entry-index l.part)
