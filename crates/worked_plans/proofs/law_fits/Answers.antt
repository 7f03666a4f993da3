use Rattle.worked_plans.proofs.Accepted.{concat_fits}
use Rattle.worked_plans.proofs.law_fits.Goals as goal

pub returns : goal.returns
returns c = concat_fits
