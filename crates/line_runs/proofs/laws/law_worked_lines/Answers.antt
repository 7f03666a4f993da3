use Rattle.std.proofs.Common.{refl}
use Rattle.line_runs.specs.Lines.{open_line, whole_lines}
use Rattle.line_runs.proofs.laws.law_worked_lines.Goals as goal

pub returns-clause-lines : goal.returns-clause-lines
unfolding whole_lines open_line
returns-clause-lines c = refl

pub returns-clause-whole : goal.returns-clause-whole
unfolding whole_lines
returns-clause-whole c = refl
