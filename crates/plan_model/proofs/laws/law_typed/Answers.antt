use Rattle.plan_model.proofs.AcceptedTypes.{accepted_is_typed}
use Rattle.plan_model.proofs.laws.law_typed.Goals as goal

pub returns : goal.returns
returns c = accepted_is_typed
