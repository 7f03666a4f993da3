use Rattle.plain_csv.proofs.Lines.{first-part, only-part, plain_records-first, position-within}
use Rattle.plain_csv.specs.Plain.{ends_line}
use Rattle.plain_csv.proofs.first_line.Goals as goal

pub cut-requires : goal.cut-requires
cut-requires c = position-within ends_line c.args.text.now c.in-Some.end c.in-Some.ensures

pub returns-in-Some-clause-records : goal.returns-in-Some-clause-records
returns-in-Some-clause-records c =
    rw (c.cut.ensures.before, c.cut.ensures.behind) (plain_records-first c.args.text.now _ _ (first-part ends_line c.args.text.now c.in-Some.end c.in-Some.ensures))

pub returns-in-None-clause-records : goal.returns-in-None-clause-records
returns-in-None-clause-records c = plain_records-first c.args.text.now _ _ (only-part ends_line c.args.text.now c.in-None.ensures)
