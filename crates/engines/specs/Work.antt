-- How much of the inputs of an operator by key a change touches.
use Rattle.std.specs.Prelude.{ℕ, ◌+◌, List, [], filter, fold, length, map, sum}
use Rattle.datasets.specs.Dataset.{Dataset, differing, rows, rows_of_either, with_rows}
use Rattle.datasets.specs.Entries.{Row, has_row}

-- the keys that a row belongs to whose weights differ, in order
abbrev pub touched_by : (Row → Dataset) → Dataset → Dataset → List Row
touched_by keys A C = fold (λ ks x. with_rows ks (rows (keys x))) [] (differing A C)

-- the keys that the inputs A and B, turned into C and D, touch
abbrev pub touched_keys : (Row → Dataset) → (Row → Dataset) → Dataset → Dataset → Dataset → Dataset → List Row
touched_keys left right A B C D = with_rows (touched_by left A C) (touched_by right B D)

-- how many rows of A or of C belong to a key
abbrev pub rows_at : (Row → Dataset) → Row → Dataset → Dataset → ℕ
rows_at keys k A C = length (filter (λ x. has_row (rows (keys x)) k) (rows_of_either A C))

-- the work of the inputs A and B turned into C and D: for each touched key one, and its rows on both sides
abbrev pub part_work : (Row → Dataset) → (Row → Dataset) → Dataset → Dataset → Dataset → Dataset → ℕ
part_work left right A B C D = sum (map (λ k. 1 + rows_at left k A C + rows_at right k B D) (touched_keys left right A B C D))
