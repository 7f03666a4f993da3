use Rattle.ratios.proofs.Parts.{ratio-zero}
use Rattle.frac_core.proofs.Frac.zero.Goals as goal

pub returns : goal.returns
returns c = ratio-zero
