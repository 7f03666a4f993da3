use Rattle.record_text.proofs.Rows.{row_reads_back}
use Rattle.record_text.proofs.laws.law_rows_read_back.Goals as goal

pub returns : goal.returns
returns c = row_reads_back
