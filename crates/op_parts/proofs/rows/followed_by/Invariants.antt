use Rattle.std.proofs.Common.{◌≡◌, take}
use Rattle.op_parts.proofs.rows.followed_by.Given as goal

abbrev pub invariant-loop-at : goal.invariant-loop-at
invariant-loop-at l = (l.atoms.items ≡ take l.at l.row) × (l.atom ≡ l.fn.atom)
