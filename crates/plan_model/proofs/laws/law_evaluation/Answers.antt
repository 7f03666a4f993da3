use Rattle.plan_model.proofs.StepLaws.{steps_are_operators}
use Rattle.plan_model.proofs.laws.law_evaluation.Goals as goal

pub returns : goal.returns
returns c = steps_are_operators
