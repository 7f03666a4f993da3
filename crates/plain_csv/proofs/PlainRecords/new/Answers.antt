use Rattle.std.proofs.Common.{sym}
use Rattle.plain_csv.proofs.Unquoted.{records-plain}
use Rattle.plain_csv.proofs.PlainRecords.new.Goals as goal

pub returns-clause-left : goal.returns-clause-left
returns-clause-left c = rw c.without_mark.ensures (sym (records-plain c.args.text.now c.requires))
