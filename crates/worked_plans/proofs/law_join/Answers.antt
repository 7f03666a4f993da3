use Rattle.worked_plans.proofs.Computed.{join_weights}
use Rattle.worked_plans.proofs.law_join.Goals as goal

pub returns-clause-weights : goal.returns-clause-weights
returns-clause-weights c = join_weights
