use Rattle.ratios.specs.Ratio.{ratio_add, ratio_max, ratio_min, ratio_sub, zero_ratio}
use Rattle.ratios.proofs.Additive.{ratio_add_zero, ratio_sub_itself}
use Rattle.ratios.proofs.AtMost.{ratio_max_itself, ratio_min_itself}
use Rattle.datasets.specs.Dataset.{at, rows}
use Rattle.operators.specs.Operators.{both_rows, cells, group_row, half_gap, joint_weight, key_levels, matches, numbered, piece}
use Rattle.operators.proofs.Gathered.{at-gathered}
use Rattle.operators.proofs.Tabulated.{at-filtered, at-pointwise}
use Rattle.operators.proofs.Shares.{at-spread}
use Rattle.operators.proofs.law_weights.Goals as goal

pub returns : goal.returns
returns c = record {
  filter = at-filtered;
  select = λ f A. at-gathered f (at A) (rows A);
  many = at-spread;
  shave = λ fs A. at-gathered numbered (λ p. piece fs (at A p.0) p.1) (cells fs A);
  union_ = at-pointwise ratio_max (ratio_max_itself zero_ratio);
  intersect = at-pointwise ratio_min (ratio_min_itself zero_ratio);
  concat = at-pointwise ratio_add (ratio_add_zero zero_ratio);
  except = at-pointwise ratio_sub (ratio_sub_itself zero_ratio);
  join = λ f g A B. at-gathered both_rows (joint_weight f g A B) (matches f g A B);
  group = λ key reduce A. at-gathered (group_row key reduce A) (half_gap key A) (key_levels key A);
}
