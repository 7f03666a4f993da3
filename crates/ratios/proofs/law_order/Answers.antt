use Rattle.ratios.proofs.AtMost.{at_most_from_cross, below_is_not_at_least, cross_from_at_most}
use Rattle.ratios.proofs.Order.{ratio_cmp_total, same_from_tie}
use Rattle.ratios.proofs.law_order.Goals as goal

pub returns : goal.returns
returns c = record {
  total = ratio_cmp_total;
  at_most = λ q r. (cross_from_at_most q r, at_most_from_cross q r);
  below = below_is_not_at_least;
  tie = same_from_tie;
}
