use Rattle.record_text.proofs.Equality.{kinds_decided, rows_decided}
use Rattle.record_text.proofs.laws.law_equality.Goals as goal

pub returns-clause-rows : goal.returns-clause-rows
returns-clause-rows c = rows_decided

pub returns-clause-kinds : goal.returns-clause-kinds
returns-clause-kinds c = kinds_decided
