-- What a set of weights keeps, and what its norm and a distance answer.
use Rattle.std.specs.Prelude.{◌&&◌, if◌then◌else◌, List, map, Option, Some, None}
use Rattle.std.specs.List.{list_all}
use Rattle.ratios.specs.Range.{in_range}
use Rattle.ratios.specs.Ratio.{Ratio, ratio_sub}
use Rattle.ratios.specs.Sums.{running_sums}
use Rattle.datasets.specs.Entries.{Entries, rows_of, AreRising, NoneZero}
use Rattle.datasets.specs.Dataset.{Dataset, at, norm, norm_terms, rows_of_either, dist, dist_terms, dataset_of}
use Rattle.weighted_set.specs.Held.{AllInRange}

-- what a set keeps: rising rows with weights other than 0, all in range
pub record AreWeights (es : Entries) : Type 0 where
  pub rising : AreRising (rows_of es)
  pub none_zero : NoneZero es
  pub in_range : AllInRange (dataset_of es)

-- the norm, or nothing where a sum on the way is out of range
abbrev pub checked_norm : Dataset → Option Ratio
checked_norm A = if list_all in_range (running_sums (norm_terms A)) then Some (norm A) else None

-- the differences of the two weights at each row of A or of B, in row order
abbrev pub differences : Dataset → Dataset → List Ratio
differences A B = map (λ x. ratio_sub (at A x) (at B x)) (rows_of_either A B)

-- the distance, or nothing where a difference or a sum on the way is out of range
abbrev pub checked_distance : Dataset → Dataset → Option Ratio
checked_distance A B =
    if list_all in_range (differences A B) && list_all in_range (running_sums (dist_terms A B)) then Some (dist A B) else None
