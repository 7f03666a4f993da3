use Rattle.plan_model.proofs.StepLaws.{misfit_is_first, no_misfit}
use Rattle.plan_model.proofs.laws.law_misfit.Goals as goal

pub returns : goal.returns
returns c = record { first = misfit_is_first; none = no_misfit }
