use Rattle.csv_changes.proofs.ChangeKinds.{kinds_of-given}
use Rattle.csv_changes.proofs.changes.read_changes.Goals as goal

pub returns-then-is_plain-clause-kinds : goal.returns-then-is_plain-clause-kinds
returns-then-is_plain-clause-kinds c = kinds_of-given c.args.csv.now c.args.kinds c.args.header c.plain_changes.result c.plain_changes.ensures

pub returns-else-is_plain-clause-kinds : goal.returns-else-is_plain-clause-kinds
returns-else-is_plain-clause-kinds c = kinds_of-given c.args.csv.now c.args.kinds c.args.header c.quoted_changes.result c.quoted_changes.ensures
