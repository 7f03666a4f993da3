use Rattle.ratios.proofs.Additive.{ratio_add_zero, ratio_add_comm, ratio_add_assoc}
use Rattle.ratios.proofs.SumLaws.{ratio_sum-append, ratio_sum_permuted}
use Rattle.ratios.proofs.law_sums.Goals as goal

pub returns : goal.returns
returns c = record { zero = ratio_add_zero; commutative = ratio_add_comm; associative = ratio_add_assoc; appended = ratio_sum-append; order_free = ratio_sum_permuted }
