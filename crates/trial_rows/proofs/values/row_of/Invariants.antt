use Rattle.std.proofs.Common.{◌≡◌, length}
use Rattle.trial_rows.proofs.values.row_of.Given as goal

abbrev pub invariant-loop-number : goal.invariant-loop-number
invariant-loop-number l = length l.atoms.items ≡ l.number-index
