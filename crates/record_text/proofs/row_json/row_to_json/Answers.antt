use Rattle.record_text.proofs.Rows.{row_reads_back, has_float-row_data}
use Rattle.record_text.proofs.row_json.row_to_json.Goals as goal

pub returns-clause-reads_back : goal.returns-clause-reads_back
returns-clause-reads_back c =
    rw (c.from.ensures, c.in_ok-values.ensures.values, ← c.atoms.ensures.value)
    (row_reads_back c.atoms.result.now (record { some = c.atoms.ensures.some; few = c.atoms.ensures.few; atoms = c.in_ok-values.ensures.held }))

pub returns-clause-plain : goal.returns-clause-plain
returns-clause-plain c = rw (c.from.ensures, c.in_ok-values.ensures.values) (has_float-row_data c.atoms.result.now)
