use Rattle.record_text.proofs.Rows.{prefix_first}
use Rattle.record_text.specs.OrderLaws.{atom_total, atom_tie, row_total, row_tie}
use Rattle.record_text.proofs.laws.law_order.Goals as goal

pub returns : goal.returns
returns c = record { atoms = atom_total; atoms_tie = atom_tie; rows = row_total; rows_tie = row_tie; prefix = prefix_first }
