use Rattle.ratios.specs.Ratio.{ratio_sub}
use Rattle.datasets.specs.Dataset.{at, rows_of_either}
use Rattle.datasets.proofs.Covers.{dist-over, norm-cover}
use Rattle.datasets.proofs.Sizes.{abs_nonnegative, sum_nonnegative}
use Rattle.datasets.proofs.law_sizes.Goals as goal

pub returns : goal.returns
returns c = record {
  norm = λ A. (abs_nonnegative (λ e. e.1) A.entries, sum_nonnegative (λ e. e.1) A.entries);
  distance = λ A B. (abs_nonnegative (λ x. ratio_sub (at A x) (at B x)) (rows_of_either A B), sum_nonnegative (λ x. ratio_sub (at A x) (at B x)) (rows_of_either A B));
  norm_over = norm-cover;
  distance_over = dist-over;
}
