-- How far apart the outputs of an operator are in two worlds, each law the contract of a function. A world
-- is one dataset for each input of the operator.
use Rattle.std.specs.Prelude.{◌<◌, ℕ, Bool, List, All}
use Rattle.ratios.specs.Ratio.{Ratio, ◌≼◌, ratio_add, ratio_max, ratio_min, ratio_sub, zero_ratio}
use Rattle.record_text.specs.declared.atom.Atom.{Atom}
use Rattle.datasets.specs.Dataset.{Dataset, dist}
use Rattle.datasets.specs.Entries.{Row}
use Rattle.operators.specs.Laws.{NoneNegative}
use Rattle.operators.specs.Operators.{Giving, filtered, grouped, joined, pointwise, selected, shaved, spread}

-- the outputs are no further apart than the inputs
abbrev pub IsStable : (Dataset → Dataset) → Type 0
IsStable op = (A B : Dataset) → dist (op A) (op B) ≼ dist A B

-- the outputs are no further apart than the first inputs and the second inputs, together
abbrev pub IsStableInBoth : (Dataset → Dataset → Dataset) → Type 0
IsStableInBoth op = (A B C D : Dataset) → dist (op A B) (op C D) ≼ ratio_add (dist A C) (dist B D)

-- a filter, by any test
abbrev pub FilterIsStable : Type 0
FilterIsStable = (test : Row → Bool) → IsStable (filtered test)

-- a select, by any function of rows
abbrev pub SelectIsStable : Type 0
SelectIsStable = (f : Row → Row) → IsStable (selected f)

-- a many whose `over` is above 0
abbrev pub ManyIsStable : Type 0
ManyIsStable = (over : ℕ) (items : List Giving) → 0 < over → IsStable (spread over items)

-- a shave into pieces none of which is below 0
abbrev pub ShaveIsStable : Type 0
ShaveIsStable = (fs : List Ratio) → All (λ f. zero_ratio ≼ f) fs → IsStable (shaved fs)

-- the set operators
abbrev pub UnionIsStable : Type 0
UnionIsStable = IsStableInBoth (pointwise ratio_max)

abbrev pub IntersectIsStable : Type 0
IntersectIsStable = IsStableInBoth (pointwise ratio_min)

abbrev pub ConcatIsStable : Type 0
ConcatIsStable = IsStableInBoth (pointwise ratio_add)

abbrev pub ExceptIsStable : Type 0
ExceptIsStable = IsStableInBoth (pointwise ratio_sub)

-- a join, by any keys, of weights of either sign
abbrev pub JoinIsStable : Type 0
JoinIsStable = (f g : Row → Row) → IsStableInBoth (joined f g)

-- a group, by any key and reducer, where no weight is negative in either world
abbrev pub GroupIsStable : Type 0
GroupIsStable = (key : Row → Row) (reduce : List Row → Atom) (A B : Dataset) → NoneNegative A → NoneNegative B →
    dist (grouped key reduce A) (grouped key reduce B) ≼ dist A B
