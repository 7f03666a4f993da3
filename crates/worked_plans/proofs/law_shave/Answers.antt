use Rattle.worked_plans.proofs.Computed.{shave_weights}
use Rattle.worked_plans.proofs.law_shave.Goals as goal

pub returns : goal.returns
returns c = shave_weights
