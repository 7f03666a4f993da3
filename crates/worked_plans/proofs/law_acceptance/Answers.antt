use Rattle.worked_plans.proofs.Accepted.{except_is_not_counted, join_is_accepted, select_past_width, union_is_counted, uses_double}
use Rattle.worked_plans.proofs.law_acceptance.Goals as goal

pub returns-clause-join : goal.returns-clause-join
returns-clause-join c = join_is_accepted

pub returns-clause-except : goal.returns-clause-except
returns-clause-except c = except_is_not_counted

pub returns-clause-union_ : goal.returns-clause-union_
returns-clause-union_ c = union_is_counted

pub returns-clause-uses : goal.returns-clause-uses
returns-clause-uses c = uses_double

pub returns-clause-column : goal.returns-clause-column
returns-clause-column c = select_past_width
