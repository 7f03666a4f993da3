use Rattle.plan_model.proofs.StepLaws.{accepted_uses_are_few}
use Rattle.plan_model.proofs.laws.law_uses.Goals as goal

pub returns : goal.returns
returns c = accepted_uses_are_few
