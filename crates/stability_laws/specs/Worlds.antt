-- Worlds in which the outputs are further apart than the inputs: of operators that are nearly those of the
-- laws, of a group of weights of both signs, and of operators on one input twice.
use Rattle.std.specs.Prelude.{◌≡◌, ℕ, ℤ, pos, negsuc, List, [], ◌∷◌, length, map, true}
use Rattle.ratios.specs.Ratio.{Ratio, is_below, ratio, ratio_add, ratio_div, ratio_max, ratio_mul}
use Rattle.record_text.specs.declared.atom.Atom.{Atom}
use Rattle.record_text.specs.declared.atom.Atom.TheVariants.{Int}
use Rattle.datasets.specs.Dataset.{Dataset, at, dataset_of, dist, norm}
use Rattle.datasets.specs.Entries.{Row}
use Rattle.operators.specs.Operators.{both_rows, gap, group_row, grouped, joined, key_levels, matches, part, pointwise}
use Rattle.operators.specs.Weights.{gathered}

-- the inputs are `near` apart and the outputs `far`, which is more
abbrev pub Breaks : (Dataset → Dataset) → Dataset → Dataset → Ratio → Ratio → Type 0
Breaks op A B near far = (dist A B ≡ near) × (dist (op A) (op B) ≡ far) × (is_below near far ≡ true)

-- rows of one Int, each with its weight
abbrev pub weighing : List (ℕ × ℤ) → Dataset
weighing ws = dataset_of (map (λ w. (Int (pos w.0) ∷ [], ratio w.1 (pos 1))) ws)

-- one row of weight 1, two, and three
abbrev pub one_row : Dataset
one_row = weighing ((1, pos 1) ∷ [])

abbrev pub two_rows : Dataset
two_rows = weighing ((1, pos 1) ∷ (2, pos 1) ∷ [])

abbrev pub three_rows : Dataset
three_rows = weighing ((1, pos 1) ∷ (2, pos 1) ∷ (3, pos 1) ∷ [])

-- n / d
abbrev pub over : ℕ → ℕ → Ratio
over n d = ratio (pos n) (pos d)

-- one key for all rows
abbrev pub no_key : Row → Row
no_key x = []

-- how many rows there are
abbrev pub count : List Row → Atom
count xs = Int (pos (length xs))

-- ---- Join

-- the weight of a pair, where the greater of the two norms divides it, and not their sum
abbrev pub weight_by_greater : (Row → Row) → (Row → Row) → Dataset → Dataset → Row × Row → Ratio
weight_by_greater f g A B p =
    let greater = ratio_max (norm (part f (f p.0) A)) (norm (part g (f p.0) B)) in
    ratio_div (ratio_mul (at A p.0) (at B p.1)) greater

abbrev pub joined_by_greater : (Row → Row) → (Row → Row) → Dataset → Dataset → Dataset
joined_by_greater f g A B = gathered both_rows (weight_by_greater f g A B) (matches f g A B)

-- a row of weight 2 meets another of weight 2; a row of weight 1 beside the first moves both outputs by 2/3
abbrev pub GreaterNormBreaks : Type 0
GreaterNormBreaks =
    let A = weighing ((1, pos 2) ∷ []) in
    let C = weighing ((1, pos 2) ∷ (2, pos 1) ∷ []) in
    let B = weighing ((7, pos 2) ∷ []) in
    Breaks (λ A. joined_by_greater no_key no_key A B) A C (over 1 1) (over 4 3)

-- ---- Group

-- a group that adds whole gaps, and not halves
abbrev pub grouped_whole : (Row → Row) → (List Row → Atom) → Dataset → Dataset
grouped_whole key reduce A = gathered (group_row key reduce A) (λ p. gap (part key p.0 A) p.1) (key_levels key A)

-- a second row takes the whole weight from one count to another
abbrev pub WholeGapsBreak : Type 0
WholeGapsBreak = Breaks (grouped_whole no_key count) one_row two_rows (over 1 1) (over 2 1)

-- a row of weight -1 alone, and beside a row of weight 1
abbrev pub SignedWeightsBreak : Type 0
SignedWeightsBreak =
    let A = weighing ((1, negsuc 0) ∷ []) in
    let C = weighing ((1, negsuc 0) ∷ (2, pos 1) ∷ []) in
    Breaks (grouped no_key count) A C (over 1 1) (over 2 1)

-- ---- one input, used twice

-- a row comes to a concat of an input with itself
abbrev pub ConcatWithItselfBreaks : Type 0
ConcatWithItselfBreaks = Breaks (λ A. pointwise ratio_add A A) (weighing []) one_row (over 1 1) (over 2 1)

-- a third row comes to a join of an input with itself, all under one key
abbrev pub JoinWithItselfBreaks : Type 0
JoinWithItselfBreaks = Breaks (λ A. joined no_key no_key A A) two_rows three_rows (over 1 1) (over 7 6)
