use Rattle.worked_plans.proofs.Misfits.{group_misfit, join_misfit, many_misfit, select_misfit, shave_misfit}
use Rattle.worked_plans.proofs.law_misfits.Goals as goal

pub returns : goal.returns
returns c = record { shave = shave_misfit; select = select_misfit; many = many_misfit; group = group_misfit; join = join_misfit }
