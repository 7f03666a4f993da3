-- Laws of datasets, each the contract of a function.
use Rattle.std.specs.Prelude.{◌+◌, ◌≡◌, ◌≢◌, ◌↔◌, true, false, All, List, filter, if◌then◌else◌, length, map, not}
use Rattle.ratios.specs.Ratio.{Ratio, ◌≼◌, ratio_abs, ratio_add, ratio_sub, zero_ratio}
use Rattle.ratios.specs.Sums.{ratio_sum}
use Rattle.datasets.specs.Entries.{Row, has_row, same_row, Entries, rows_of, AreRising, is_zero, row_count, weight_in}
use Rattle.datasets.specs.Dataset.{Dataset, apart, differing, rows, at, norm, norm_terms, dist, dist_terms, empty, set_at, add_at, dataset_of}

-- datasets with the same weight at every row are equal
abbrev pub SameWeightsAreEqual : Type 0
SameWeightsAreEqual = (A B : Dataset) → ((x : Row) → at A x ≡ at B x) → A ≡ B

-- every weight of the empty dataset is 0
abbrev pub EmptyWeighsNothing : Type 0
EmptyWeighsNothing = (x : Row) → at empty x ≡ zero_ratio

-- the weight that is set is there, and every other row keeps its own
abbrev pub SetWeightIsThere : Type 0
SetWeightIsThere = (x : Row) (w : Ratio) (A : Dataset) (y : Row) → at (set_at x w A) y ≡ (if same_row y x then w else at A y)

-- the row that is added to weighs so much more, and every other row keeps its weight
abbrev pub AddedWeightIsThere : Type 0
AddedWeightIsThere = (x : Row) (w : Ratio) (A : Dataset) (y : Row) → at (add_at x w A) y ≡ (if same_row y x then ratio_add (at A y) w else at A y)

-- a row of the dataset of entries has the weight of its first entry
abbrev pub DatasetOfEntries : Type 0
DatasetOfEntries = (es : Entries) (x : Row) → at (dataset_of es) x ≡ weight_in es x

-- the dataset of a dataset's entries is that dataset
abbrev pub DatasetOfItsEntries : Type 0
DatasetOfItsEntries = (A : Dataset) → dataset_of A.entries ≡ A

-- a weight that is set to what it is changes nothing
abbrev pub SetToSameIsSame : Type 0
SetToSameIsSame = (x : Row) (A : Dataset) → set_at x (at A x) A ≡ A

-- a row that is set counts instead of what it was before
abbrev pub SetWeightCounts : Type 0
SetWeightCounts = (x : Row) (w : Ratio) (A : Dataset) → length (rows (set_at x w A)) + row_count (at A x) ≡ length (rows A) + row_count w

-- the dataset of rising entries has those of a weight other than 0
abbrev pub DatasetOfRisingEntries : Type 0
DatasetOfRisingEntries = (es : Entries) → AreRising (rows_of es) → (dataset_of es).entries ≡ filter (λ e. not (is_zero e.1)) es

-- no term of a norm is below 0, nor is the norm
abbrev pub NormIsNonnegative : Type 0
NormIsNonnegative = (A : Dataset) → All (λ q. zero_ratio ≼ q) (norm_terms A) × (zero_ratio ≼ norm A)

-- no term of a distance is below 0, nor is the distance
abbrev pub DistanceIsNonnegative : Type 0
DistanceIsNonnegative = (A B : Dataset) → All (λ q. zero_ratio ≼ q) (dist_terms A B) × (zero_ratio ≼ dist A B)

-- over any rising rows off which a dataset weighs nothing, its norm is the sum of the absolute weights
abbrev pub NormOverRows : Type 0
NormOverRows = (A : Dataset) (xs : List Row) → AreRising xs → ((x : Row) → has_row xs x ≡ false → at A x ≡ zero_ratio) →
    norm A ≡ ratio_sum (map (λ x. ratio_abs (at A x)) xs)

-- over any rising rows off which two weigh the same, their distance is the sum of how far the weights are apart
abbrev pub DistanceOverRows : Type 0
DistanceOverRows = (A B : Dataset) (xs : List Row) → AreRising xs → ((x : Row) → has_row xs x ≡ false → at A x ≡ at B x) →
    dist A B ≡ ratio_sum (map (apart A B) xs)

-- the distance is the same the other way round
abbrev pub DistanceIsSymmetric : Type 0
DistanceIsSymmetric = (A B : Dataset) → dist A B ≡ dist B A

-- to the empty dataset the distance is the norm
abbrev pub DistanceToEmpty : Type 0
DistanceToEmpty = (A : Dataset) → dist A empty ≡ norm A

-- two datasets are at no distance just where they are equal
abbrev pub NoDistanceIsEquality : Type 0
NoDistanceIsEquality = (A B : Dataset) → (dist A B ≡ zero_ratio) ↔ (A ≡ B)

-- no way round is shorter
abbrev pub DistanceTriangle : Type 0
DistanceTriangle = (A B C : Dataset) → dist A C ≼ ratio_add (dist A B) (dist B C)

-- two norms are no further apart than their datasets
abbrev pub NormsApart : Type 0
NormsApart = (A B : Dataset) → ratio_abs (ratio_sub (norm A) (norm B)) ≼ dist A B

-- the rows at which two datasets differ rise
abbrev pub DifferingRowsRise : Type 0
DifferingRowsRise = (A B : Dataset) → AreRising (differing A B)

-- they are those whose weights differ
abbrev pub DifferingRowsDiffer : Type 0
DifferingRowsDiffer = (A B : Dataset) (x : Row) → (has_row (differing A B) x ≡ true) ↔ (at A x ≢ at B x)
