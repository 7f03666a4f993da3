use Rattle.std.proofs.Common.{[]}
use Rattle.line_runs.proofs.LineLemmas.{whole_lines-append, open_line-append, Lines-append, Lines-one, Lines-last}
use Rattle.line_runs.proofs.laws.law_pieces.Goals as goal

pub returns-clause-whole : goal.returns-clause-whole
returns-clause-whole c = whole_lines-append

pub returns-clause-open : goal.returns-clause-open
returns-clause-open c = open_line-append

pub returns-clause-whole_from_start : goal.returns-clause-whole_from_start
returns-clause-whole_from_start c = whole_lines-append []

pub returns-clause-from_start : goal.returns-clause-from_start
returns-clause-from_start c = Lines-append

pub returns-clause-one_line : goal.returns-clause-one_line
returns-clause-one_line c = Lines-one

pub returns-clause-last_line : goal.returns-clause-last_line
returns-clause-last_line c = Lines-last
