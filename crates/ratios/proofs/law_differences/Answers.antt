use Rattle.ratios.proofs.Additive.{ratio_sub_itself, same_from_sub_zero, ratio_add_sub}
use Rattle.ratios.proofs.law_differences.Goals as goal

pub returns : goal.returns
returns c = record { itself = ratio_sub_itself; none = same_from_sub_zero; adds_back = ratio_add_sub }
