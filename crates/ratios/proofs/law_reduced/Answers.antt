use Rattle.ratios.proofs.Over.{same_cross}
use Rattle.ratios.proofs.Parts.{ratio_is_quotient}
use Rattle.ratios.proofs.law_reduced.Goals as goal

pub returns : goal.returns
returns c = record { quotient = ratio_is_quotient; one_ratio_each = same_cross }
