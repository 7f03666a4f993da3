use Rattle.worked_plans.proofs.Computed.{set_weights}
use Rattle.worked_plans.proofs.law_sets.Goals as goal

pub returns : goal.returns
returns c = set_weights
