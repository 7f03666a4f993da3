use Rattle.worked_plans.proofs.Computed.{many_weights}
use Rattle.worked_plans.proofs.law_many.Goals as goal

pub returns : goal.returns
returns c = many_weights
