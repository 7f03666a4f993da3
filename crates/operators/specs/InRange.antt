-- The values that an operator passes through, and whether all of them are in range.
use Rattle.std.specs.Prelude.{ℕ, Bool, ◌&&◌, ◌||◌, not, List, filter, flat_map, map, take}
use Rattle.std.specs.List.{list_all}
use Rattle.ratios.specs.Ratio.{Ratio, is_below, ratio_add, ratio_mul, ratio_sub, zero_ratio}
use Rattle.ratios.specs.Range.{all_in_range, in_range}
use Rattle.ratios.specs.Sums.{ratio_sum, runs_in_range}
use Rattle.record_text.specs.declared.atom.Atom.{Atom}
use Rattle.datasets.specs.Dataset.{Dataset, at, norm, norm_terms, rows}
use Rattle.datasets.specs.Entries.{Row, has_row, is_zero}
use Rattle.operators.specs.Operators.{Giving, applying, cells, factor, gap, group_row, group_terms, half_gap, key_levels, keys, part, select_terms}

-- each weight of a dataset is in range
abbrev pub weights_in_range : Dataset → Bool
weights_in_range A = all_in_range (map (at A) (rows A))

-- Select: each running sum at an output row
abbrev pub select_in_range : (Row → Row) → Dataset → Bool
select_in_range f A = list_all (λ z. runs_in_range (select_terms f A z)) (map f (rows A))

-- the rows that the items make of the rows of A
abbrev pub made_rows : List Giving → Dataset → List Row
made_rows items A = flat_map (λ y. map (λ i. i.row y) (applying items y)) (rows A)

-- the products A(y) * g(y, z) with g(y, z) not 0, over the rows y in row order
abbrev pub products : ℕ → List Giving → Dataset → Row → List Ratio
products over items A z = map (λ y. ratio_mul (at A y) (factor over items y z)) (filter (λ y. not (is_zero (factor over items y z))) (rows A))

-- Many: each such product, and each running sum of them at an output row
abbrev pub many_in_range : ℕ → List Giving → Dataset → Bool
many_in_range over items A = list_all (λ z. all_in_range (products over items A z) && runs_in_range (products over items A z)) (made_rows items A)

-- what is left of w before the piece i
abbrev pub left_before : List Ratio → Ratio → ℕ → Ratio
left_before fs w i = ratio_sub w (ratio_sum (take i fs))

-- Shave: what is left of a weight before each piece, where that is above 0
abbrev pub shave_in_range : List Ratio → Dataset → Bool
shave_in_range fs A = list_all (λ p. not (is_below zero_ratio (left_before fs (at A p.0) p.1)) || in_range (left_before fs (at A p.0) p.1)) (cells fs A)

-- Join at a key: the running sums of both norms, and their sum
abbrev pub key_in_range : Dataset → Dataset → Bool
key_in_range P Q = runs_in_range (norm_terms P) && runs_in_range (norm_terms Q) && in_range (ratio_add (norm P) (norm Q))

-- Join: that at each key with rows on both sides
abbrev pub join_in_range : (Row → Row) → (Row → Row) → Dataset → Dataset → Bool
join_in_range f g A B = list_all (λ k. key_in_range (part f k A) (part g k B)) (filter (has_row (keys g B)) (keys f A))

-- Group: each gap, each half gap, and each running sum at an output row
abbrev pub group_in_range : (Row → Row) → (List Row → Atom) → Dataset → Bool
group_in_range key reduce A =
    list_all (λ p. in_range (gap (part key p.0 A) p.1) && in_range (half_gap key A p) && runs_in_range (group_terms key reduce A (group_row key reduce A p))) (key_levels key A)
