use Rattle.std.proofs.Common.{◌≡◌, drop, length}
use Rattle.csv.specs.Records.{field_at}
use Rattle.json_fields.specs.Walk.{each}
use Rattle.json_fields.proofs.Members.{with_front}
use Rattle.csv_changes.specs.Changes.{atom_at, row_at}
use Rattle.csv_changes.proofs.changes.row.Given as goal

abbrev pub invariant-loop-column : goal.invariant-loop-column
invariant-loop-column g l = record {
  count : length l.atoms.items ≡ l.column;
  read : with_front l.atoms.items (each (λ column kind. atom_at l.at kind (field_at (g.R.Records.progress l.records).fields column)) l.column (drop l.column l.kinds))
      ≡ row_at l.at l.kinds (g.R.Records.progress l.records).fields;
}
