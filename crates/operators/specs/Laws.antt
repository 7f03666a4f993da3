-- Laws of the operators, each the contract of a function.
use Rattle.std.specs.Prelude.{◌≡◌, ◌≢◌, ◌⊎◌, ◌↔◌, ◌<◌, ℕ, pos, Bool, true, List, [], ◌∷◌, ◌++◌, Contains, length, map}
use Rattle.std.specs.List.Sorted.{IsStrictlySortedBy}
use Rattle.ratios.specs.Ratio.{Ratio, ratio_add, ratio_cmp, ratio_div, ratio_half, ratio_max, ratio_min, ratio_mul, ratio_sub, zero_ratio, ◌≼◌}
use Rattle.ratios.specs.Sums.{ratio_sum}
use Rattle.record_text.specs.declared.atom.Atom.{Atom}
use Rattle.record_text.specs.declared.atom.Atom.TheVariants.{Int}
use Rattle.datasets.specs.Dataset.{Dataset, at, norm, rows}
use Rattle.datasets.specs.Entries.{Row, has_row}
use Rattle.operators.specs.Weights.{weights_for}
use Rattle.operators.specs.Operators.{Giving, filter_weight, filtered, gap, group_weight, grouped, join_weight, joined, keys, levels, many_weight, part, piece, pointwise, pointwise_weight, select_weight, selected, shave_weight, shaved, spread, top}

-- ---- weights

-- the dataset has the weight of the formula at every row
abbrev pub Weighs : Dataset → (Row → Ratio) → Type 0
Weighs A weight = (z : Row) → at A z ≡ weight z

abbrev pub FilterWeighs : Type 0
FilterWeighs = (test : Row → Bool) (A : Dataset) → Weighs (filtered test A) (filter_weight test A)

abbrev pub SelectWeighs : Type 0
SelectWeighs = (f : Row → Row) (A : Dataset) → Weighs (selected f A) (select_weight f A)

abbrev pub ManyWeighs : Type 0
ManyWeighs = (over : ℕ) (items : List Giving) (A : Dataset) → Weighs (spread over items A) (many_weight over items A)

abbrev pub ShaveWeighs : Type 0
ShaveWeighs = (fs : List Ratio) (A : Dataset) → Weighs (shaved fs A) (shave_weight fs A)

abbrev pub UnionWeighs : Type 0
UnionWeighs = (A B : Dataset) → Weighs (pointwise ratio_max A B) (pointwise_weight ratio_max A B)

abbrev pub IntersectWeighs : Type 0
IntersectWeighs = (A B : Dataset) → Weighs (pointwise ratio_min A B) (pointwise_weight ratio_min A B)

abbrev pub ConcatWeighs : Type 0
ConcatWeighs = (A B : Dataset) → Weighs (pointwise ratio_add A B) (pointwise_weight ratio_add A B)

abbrev pub ExceptWeighs : Type 0
ExceptWeighs = (A B : Dataset) → Weighs (pointwise ratio_sub A B) (pointwise_weight ratio_sub A B)

abbrev pub JoinWeighs : Type 0
JoinWeighs = (f g : Row → Row) (A B : Dataset) → Weighs (joined f g A B) (join_weight f g A B)

abbrev pub GroupWeighs : Type 0
GroupWeighs = (key : Row → Row) (reduce : List Row → Atom) (A : Dataset) → Weighs (grouped key reduce A) (group_weight key reduce A)

-- ---- the output rows of a shave and of a join, and the levels of a group

-- at a row followed by the place of a piece, that piece of the row's weight
abbrev pub ShavePieces : Type 0
ShavePieces = (fs : List Ratio) (A : Dataset) (x : Row) (i : ℕ) → has_row (rows A) x ≡ true → i < length fs → at (shaved fs A) (x ++ Int (pos i) ∷ []) ≡ piece fs (at A x) i

-- the rows of the dataset have n atoms
abbrev pub HasWidth : ℕ → Dataset → Type 0
HasWidth n A = (x : Row) → has_row (rows A) x ≡ true → length x ≡ n

-- at a row followed by another with an equal key, the product of their weights, divided by the norms of
-- the rows with that key
abbrev pub JoinPairs : Type 0
JoinPairs = (f g : Row → Row) (A B : Dataset) (n : ℕ) (x y : Row) → HasWidth n A → has_row (rows A) x ≡ true → has_row (rows B) y ≡ true → f x ≡ g y →
    at (joined f g A B) (x ++ y) ≡ ratio_div (ratio_mul (at A x) (at B y)) (ratio_add (norm (part f (f x) A)) (norm (part g (f x) B)))

-- at a key followed by an atom: half the gap of each level of the key's rows whose rows are reduced to the atom
abbrev pub GroupAtKey : Type 0
GroupAtKey = (key : Row → Row) (reduce : List Row → Atom) (A : Dataset) (k : Row) (a : Atom) → has_row (keys key A) k ≡ true →
    let P : Dataset = part key k A in
    at (grouped key reduce A) (k ++ a ∷ []) ≡ ratio_sum (weights_for (λ t. reduce (top P t) ∷ []) (λ t. ratio_half (gap P t)) (levels P) (a ∷ []))

-- each level is above the next
abbrev pub LevelsFall : Type 0
LevelsFall = (P : Dataset) → IsStrictlySortedBy (λ t u. ratio_cmp u t) (levels P)

-- the levels are the weights that occur
abbrev pub LevelsAreWeights : Type 0
LevelsAreWeights = (P : Dataset) (t : Ratio) → Contains (levels P) t ↔ Contains (map (at P) (rows P)) t

-- ---- rows of another form weigh 0

-- a row that isn't a row of the input followed by the place of a piece
abbrev pub ShaveElsewhere : Type 0
ShaveElsewhere = (fs : List Ratio) (A : Dataset) (z : Row) →
    ((x : Row) (i : ℕ) → has_row (rows A) x ≡ true → i < length fs → z ≢ x ++ Int (pos i) ∷ []) → at (shaved fs A) z ≡ zero_ratio

-- a row that isn't a row of the left input followed by one of the right with an equal key
abbrev pub JoinElsewhere : Type 0
JoinElsewhere = (f g : Row → Row) (A B : Dataset) (z : Row) →
    ((x y : Row) → has_row (rows A) x ≡ true → has_row (rows B) y ≡ true → f x ≡ g y → z ≢ x ++ y) → at (joined f g A B) z ≡ zero_ratio

-- a row that isn't a key that occurs followed by an atom
abbrev pub GroupElsewhere : Type 0
GroupElsewhere = (key : Row → Row) (reduce : List Row → Atom) (A : Dataset) (z : Row) →
    ((k : Row) (a : Atom) → has_row (keys key A) k ≡ true → z ≢ k ++ a ∷ []) → at (grouped key reduce A) z ≡ zero_ratio

-- ---- signs

-- no weight is negative
abbrev pub NoneNegative : Dataset → Type 0
NoneNegative A = (x : Row) → zero_ratio ≼ at A x

abbrev pub FilterKeepsSigns : Type 0
FilterKeepsSigns = (test : Row → Bool) (A : Dataset) → NoneNegative A → NoneNegative (filtered test A)

abbrev pub SelectKeepsSigns : Type 0
SelectKeepsSigns = (f : Row → Row) (A : Dataset) → NoneNegative A → NoneNegative (selected f A)

abbrev pub ManyKeepsSigns : Type 0
ManyKeepsSigns = (over : ℕ) (items : List Giving) (A : Dataset) → NoneNegative A → NoneNegative (spread over items A)

-- a shave is never negative
abbrev pub ShaveIsNotNegative : Type 0
ShaveIsNotNegative = (fs : List Ratio) (A : Dataset) → NoneNegative (shaved fs A)

-- a union is not negative where either input is not
abbrev pub UnionKeepsSigns : Type 0
UnionKeepsSigns = (A B : Dataset) → NoneNegative A ⊎ NoneNegative B → NoneNegative (pointwise ratio_max A B)

abbrev pub IntersectKeepsSigns : Type 0
IntersectKeepsSigns = (A B : Dataset) → NoneNegative A → NoneNegative B → NoneNegative (pointwise ratio_min A B)

abbrev pub ConcatKeepsSigns : Type 0
ConcatKeepsSigns = (A B : Dataset) → NoneNegative A → NoneNegative B → NoneNegative (pointwise ratio_add A B)

abbrev pub JoinKeepsSigns : Type 0
JoinKeepsSigns = (f g : Row → Row) (A B : Dataset) → NoneNegative A → NoneNegative B → NoneNegative (joined f g A B)

-- a group of an input without negative weights has none
abbrev pub GroupKeepsSigns : Type 0
GroupKeepsSigns = (key : Row → Row) (reduce : List Row → Atom) (A : Dataset) → NoneNegative A → NoneNegative (grouped key reduce A)
