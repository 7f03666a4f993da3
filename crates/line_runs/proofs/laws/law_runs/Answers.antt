use Rattle.line_runs.proofs.RunLemmas.{Run-append, Run-split, Run-silent, Run-silent_from, Run-one, Run-one_from, Run-counted}
use Rattle.line_runs.proofs.laws.law_runs.Goals as goal

pub returns-clause-join : goal.returns-clause-join
returns-clause-join g c = Run-append g.M.Machine.answers

pub returns-clause-split : goal.returns-clause-split
returns-clause-split g c = Run-split g.M.Machine.answers

pub returns-clause-silent : goal.returns-clause-silent
returns-clause-silent g c old new given replies =
    (Run-silent g.M.Machine.answers old new given replies, Run-silent_from g.M.Machine.answers old new given replies)

pub returns-clause-answered : goal.returns-clause-answered
returns-clause-answered g c old new line given replies some =
    (Run-one g.M.Machine.answers old new line given replies some, Run-one_from g.M.Machine.answers old new line given replies some)

pub returns-clause-counted : goal.returns-clause-counted
returns-clause-counted g c = Run-counted g.M.Machine.answers
