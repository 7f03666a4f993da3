use Rattle.std.proofs.Common.{◌+◌, drop, refl, rules}
use Rattle.std.proofs.lemmas.Result.{err_from_is_err_and}
use Rattle.csv.specs.Records.{field_at}
use Rattle.csv_changes.specs.Changes.{atom_at, row_at}
use Rattle.record_text.proofs.Lists.{rest_from}
use Rattle.csv_changes.proofs.Fronts.{each-next, FailsCsv-next}
use Rattle.csv_changes.proofs.changes.row.Goals as goal

pub returns-in_err-atom : goal.returns-in_err-atom
returns-in_err-atom g c =
    let fails = rw c.field.ensures at c.in_err-atom.ensures in
    let p = err_from_is_err_and c.from_residual-in_err-atom.result c.from_residual-in_err-atom.ensures.1 in
    let one = rest_from c.args.kinds c.loop-column.column c.at.result c.at.ensures in
    rw (p.1, p.2) (FailsCsv-next (λ column kind. atom_at c.args.at kind (field_at (g.R.Records.progress c.args.records.now).fields column)) c.loop-column.column c.at.result
    (drop c.loop-column.column c.args.kinds) (drop (c.loop-column.column + 1) c.args.kinds) c.loop-column.atoms.items
    (row_at c.args.at c.args.kinds (g.R.Records.progress c.args.records.now).fields) c.in_err-atom.field-0.0 one fails c.loop-column.invariant.read)

pub loop-column-preserved : goal.loop-column-preserved
loop-column-preserved g c =
    let read = rw c.field.ensures at c.in_ok-atom.ensures in
    let one = rest_from c.args.kinds c.loop-column.column c.at.result c.at.ensures in
    record {
      count = search rules;
      read = each-next (λ column kind. atom_at c.args.at kind (field_at (g.R.Records.progress c.args.records.now).fields column)) c.loop-column.column (c.loop-column.column + 1) c.at.result
          (drop c.loop-column.column c.args.kinds) (drop (c.loop-column.column + 1) c.args.kinds) c.loop-column.atoms.items c.push.new.self.items c.in_ok-atom.atom
          (row_at c.args.at c.args.kinds (g.R.Records.progress c.args.records.now).fields) refl one c.in_ok-push.ensures.items read c.loop-column.invariant.read;
    }
