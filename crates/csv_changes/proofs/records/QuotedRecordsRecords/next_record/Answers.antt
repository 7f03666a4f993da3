use Rattle.csv.specs.Records.{fields_of}
use Rattle.csv_changes.proofs.CsvRecords.{records_left-read}
use Rattle.csv_changes.proofs.records.QuotedRecordsRecords.next_record.Goals as goal

pub returns-in-Ok-clause-next : goal.returns-in-Ok-clause-next
returns-in-Ok-clause-next c =
    records_left-read c.args.self.now.reader c.read_byte_record.new.self c.in-Ok.found (fields_of c.read_byte_record.new.row) c.requires
    (c.in-Ok.ensures.reads c.requires.trim c.requires.ready)
