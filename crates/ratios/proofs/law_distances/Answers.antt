use Rattle.ratios.proofs.Additive.{ratio_abs_zero}
use Rattle.ratios.proofs.Field.{abs_add, abs_nonneg, triangle}
use Rattle.ratios.proofs.law_distances.Goals as goal

pub returns : goal.returns
returns c = record { zero = ratio_abs_zero; nonnegative = λ q. (abs_nonneg q).le; sum = λ q r. (abs_add q r).le; triangle = λ q r s. (triangle q r s).le }
