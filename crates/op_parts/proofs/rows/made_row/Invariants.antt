use Rattle.std.proofs.Common.{◌≡◌, take}
use Rattle.plan_model.specs.Evaluation.{row_of}
use Rattle.op_parts.proofs.rows.made_row.Given as goal

abbrev pub invariant-loop-at : goal.invariant-loop-at
invariant-loop-at l = l.atoms.items ≡ row_of (take l.at l.exprs) l.row
