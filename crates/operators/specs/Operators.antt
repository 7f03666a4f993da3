-- The operators on datasets. Each is given by the weight of each output row, and beside that formula
-- stands the dataset that has these weights.
use Rattle.std.specs.Prelude.{ℕ, pos, Bool, List, [], ◌∷◌, ◌++◌, filter, if◌then◌else◌, length, map, max, slice_index_or, sum_by, take}
use Rattle.std.specs.List.{range_with_len}
use Rattle.std.specs.Ordering.{match_ordering}
use Rattle.ratios.specs.Ratio.{Ratio, is_at_most, is_below, ratio, ratio_add, ratio_cmp, ratio_div, ratio_half, ratio_max, ratio_min, ratio_mul, ratio_sub, zero_ratio}
use Rattle.ratios.specs.Sums.{ratio_sum}
use Rattle.record_text.specs.declared.atom.Atom.{Atom}
use Rattle.record_text.specs.declared.atom.Atom.TheVariants.{Int}
use Rattle.datasets.specs.Dataset.{Dataset, at, norm, rows, rows_of_either, with_rows}
use Rattle.datasets.specs.Entries.{Row, same_row}
use Rattle.operators.specs.Weights.{gathered, pairs, tabulated, weights_for}

-- ---- Filter by a test

-- at z: A(z) where z passes the test, else 0
abbrev pub filter_weight : (Row → Bool) → Dataset → Row → Ratio
filter_weight test A z = if test z then at A z else zero_ratio

-- the rows that pass, with their weights
abbrev pub filtered : (Row → Bool) → Dataset → Dataset
filtered test A = tabulated (at A) (filter test (rows A))

-- ---- Select by a function of rows

-- the weights A(y) of the rows y with f(y) = z, in row order
abbrev pub select_terms : (Row → Row) → Dataset → Row → List Ratio
select_terms f A z = weights_for f (at A) (rows A) z

-- at z: the sum of A(y) over the rows y with f(y) = z
abbrev pub select_weight : (Row → Row) → Dataset → Row → Ratio
select_weight f A z = ratio_sum (select_terms f A z)

-- each row y adds its weight to the row f(y)
abbrev pub selected : (Row → Row) → Dataset → Dataset
selected f A = gathered f (at A) (rows A)

-- ---- Many by items

-- an item: which rows it applies to, and the row that it makes of such a row, with a weight
pub record Giving : Type 0 where
  pub weight : ℕ
  pub applies : Row → Bool
  pub row : Row → Row

-- the items that apply to y
abbrev pub applying : List Giving → Row → List Giving
applying items y = filter (λ i. i.applies y) items

-- the weight of some items
abbrev pub weight_of : List Giving → ℕ
weight_of items = sum_by (λ i. i.weight) items

-- the greater of `over` and the weight of all items that apply to y
abbrev pub divisor : ℕ → List Giving → Row → ℕ
divisor over items y = max over (weight_of (applying items y))

-- g(y, z): the weight of the items that apply to y and give z, divided
abbrev pub factor : ℕ → List Giving → Row → Row → Ratio
factor over items y z = ratio (pos (weight_of (filter (λ i. same_row z (i.row y)) (applying items y)))) (pos (divisor over items y))

-- at z: the sum over the rows y of A(y) * g(y, z)
abbrev pub many_weight : ℕ → List Giving → Dataset → Row → Ratio
many_weight over items A z = ratio_sum (map (λ y. ratio_mul (at A y) (factor over items y z)) (rows A))

-- each item that applies to a row y adds its share of A(y) to the row that it makes of y
abbrev pub spread : ℕ → List Giving → Dataset → Dataset
spread over items A =
    gathered (λ p. p.1.row p.0) (λ p. ratio_mul (at A p.0) (ratio (pos p.1.weight) (pos (divisor over items p.0)))) (pairs (rows A) (applying items))

-- ---- Shave into pieces

-- max(0, min(f_i, w - (f_0 + .. + f_(i-1))))
abbrev pub piece : List Ratio → Ratio → ℕ → Ratio
piece fs w i = ratio_max zero_ratio (ratio_min (slice_index_or fs i zero_ratio) (ratio_sub w (ratio_sum (take i fs))))

-- x followed by the Int i
abbrev pub numbered : Row × ℕ → Row
numbered p = p.0 ++ Int (pos p.1) ∷ []

-- each row with the place of each piece
abbrev pub cells : List Ratio → Dataset → List (Row × ℕ)
cells fs A = pairs (rows A) (λ x. range_with_len 0 (length fs))

-- at x followed by the Int i, for each place i of the pieces: the piece i of A(x)
abbrev pub shave_weight : List Ratio → Dataset → Row → Ratio
shave_weight fs A z = ratio_sum (weights_for numbered (λ p. piece fs (at A p.0) p.1) (cells fs A) z)

-- each row x adds the piece i of its weight to x followed by the Int i
abbrev pub shaved : List Ratio → Dataset → Dataset
shaved fs A = gathered numbered (λ p. piece fs (at A p.0) p.1) (cells fs A)

-- ---- Union, Intersect, Concat, Except

-- at z: the greater, the less, the sum or the difference of A(z) and B(z), as the operation is
abbrev pub pointwise_weight : (Ratio → Ratio → Ratio) → Dataset → Dataset → Row → Ratio
pointwise_weight op A B z = op (at A z) (at B z)

-- these weights at the rows of either
abbrev pub pointwise : (Ratio → Ratio → Ratio) → Dataset → Dataset → Dataset
pointwise op A B = tabulated (pointwise_weight op A B) (rows_of_either A B)

-- ---- Join by keys

-- the rows of A with the key k, with their weights
abbrev pub part : (Row → Row) → Row → Dataset → Dataset
part key k A = filtered (λ x. same_row k (key x)) A

-- the rows x of A and y of B with equal keys
abbrev pub matches : (Row → Row) → (Row → Row) → Dataset → Dataset → List (Row × Row)
matches f g A B = pairs (rows A) (λ x. filter (λ y. same_row (f x) (g y)) (rows B))

-- Norm(A_k) + Norm(B_k)
abbrev pub both_norms : (Row → Row) → (Row → Row) → Dataset → Dataset → Row → Ratio
both_norms f g A B k = ratio_add (norm (part f k A)) (norm (part g k B))

-- A(x) * B(y) / (Norm(A_k) + Norm(B_k)), where k is the key of x and of y
abbrev pub joint_weight : (Row → Row) → (Row → Row) → Dataset → Dataset → Row × Row → Ratio
joint_weight f g A B p = ratio_div (ratio_mul (at A p.0) (at B p.1)) (both_norms f g A B (f p.0))

-- x followed by y
abbrev pub both_rows : Row × Row → Row
both_rows p = p.0 ++ p.1

-- at x followed by y, for the rows x and y with equal keys: their joint weight
abbrev pub join_weight : (Row → Row) → (Row → Row) → Dataset → Dataset → Row → Ratio
join_weight f g A B z = ratio_sum (weights_for both_rows (joint_weight f g A B) (matches f g A B) z)

-- each such pair adds its joint weight to x followed by y
abbrev pub joined : (Row → Row) → (Row → Row) → Dataset → Dataset → Dataset
joined f g A B = gathered both_rows (joint_weight f g A B) (matches f g A B)

-- ---- Group by a key

-- the keys that occur, in row order
abbrev pub keys : (Row → Row) → Dataset → List Row
keys key A = with_rows (map key (rows A)) []

-- falling ratios with t among them
abbrev pub with_level : Ratio → List Ratio → List Ratio
with_level t [] = t ∷ []
with_level t (u ∷ us) = match_ordering (ratio_cmp t u) (u ∷ with_level t us) (u ∷ us) (t ∷ u ∷ us)

-- falling ratios: those that occur in a list
abbrev pub with_levels : List Ratio → List Ratio
with_levels [] = []
with_levels (t ∷ ts) = with_level t (with_levels ts)

-- the weights that occur, from the highest down
abbrev pub levels : Dataset → List Ratio
levels P = with_levels (map (at P) (rows P))

-- the rows of weight at least t
abbrev pub top : Dataset → Ratio → List Row
top P t = filter (λ x. is_at_most t (at P x)) (rows P)

-- t minus the highest of the lower levels, or t where there is none
abbrev pub down_to : Ratio → List Ratio → Ratio
down_to t [] = t
down_to t (u ∷ us) = ratio_sub t u

-- t minus the next lower level, or t where it is the lowest
abbrev pub gap : Dataset → Ratio → Ratio
gap P t = down_to t (filter (λ u. is_below u t) (levels P))

-- each key with each level of its rows, from the highest down
abbrev pub key_levels : (Row → Row) → Dataset → List (Row × Ratio)
key_levels key A = pairs (keys key A) (λ k. levels (part key k A))

-- half the gap of a key's level
abbrev pub half_gap : (Row → Row) → Dataset → Row × Ratio → Ratio
half_gap key A p = ratio_half (gap (part key p.0 A) p.1)

-- the key k followed by the atom that a level's rows are reduced to
abbrev pub group_row : (Row → Row) → (List Row → Atom) → Dataset → Row × Ratio → Row
group_row key reduce A p = p.0 ++ reduce (top (part key p.0 A) p.1) ∷ []

-- the half gaps of the levels that give the row z, from the highest level down
abbrev pub group_terms : (Row → Row) → (List Row → Atom) → Dataset → Row → List Ratio
group_terms key reduce A z = weights_for (group_row key reduce A) (half_gap key A) (key_levels key A) z

-- at the key k followed by the atom a: the sum of Gap(k, t) / 2 over the levels t with Reduce(Top(k, t)) = a
abbrev pub group_weight : (Row → Row) → (List Row → Atom) → Dataset → Row → Ratio
group_weight key reduce A z = ratio_sum (group_terms key reduce A z)

-- each key's level adds half its gap to its output row
abbrev pub grouped : (Row → Row) → (List Row → Atom) → Dataset → Dataset
grouped key reduce A = gathered (group_row key reduce A) (half_gap key A) (key_levels key A)
