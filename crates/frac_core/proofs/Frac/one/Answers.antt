use Rattle.ratios.proofs.Parts.{ratio-one}
use Rattle.frac_core.proofs.Frac.one.Goals as goal

pub returns : goal.returns
returns c = ratio-one
