-- The walk over a part by falling weight: rows are taken up one by one, and each level adds half its gap.
use Rattle.std.specs.Prelude.{◌&&◌, Bool, false, if◌then◌else◌, List, [], ◌∷◌, ◌++◌, map, Option, Some, None}
use Rattle.std.specs.List.Sorted.{IsPermutation}
use Rattle.std.specs.Ordering.{eq_by_cmp}
use Rattle.ratios.specs.Range.{in_range}
use Rattle.ratios.specs.Ratio.{Ratio, ◌≼◌, ratio_add, ratio_cmp, ratio_half}
use Rattle.record_text.specs.declared.atom.Atom.{Atom}
use Rattle.datasets.specs.Dataset.{Dataset, add_at, at, empty}
use Rattle.datasets.specs.Entries.{Entries, Row}
use Rattle.operators.specs.Operators.{down_to}

-- ---- entries by falling weight

-- no entry weighs more than the one before it
abbrev pub NeverRise : Entries → Type 0
NeverRise [] = Unit {0}
NeverRise (e ∷ []) = Unit {0}
NeverRise (e ∷ f ∷ es) = (f.1 ≼ e.1) × NeverRise (f ∷ es)

-- fs are the entries es by falling weight
pub record IsByWeight (es fs : Entries) : Type 0 where
  pub same : IsPermutation es fs
  pub falling : NeverRise fs

-- the weights of entries, in their order
abbrev pub weights_of : Entries → List Ratio
weights_of es = map (λ e. e.1) es

-- the first entry has this weight
abbrev pub ties_with : Ratio → Entries → Bool
ties_with w [] = false
ties_with w (e ∷ es) = eq_by_cmp ratio_cmp w e.1

-- ---- what the levels add

-- of each level, the atom that its rows are reduced to, and its gap
abbrev pub AtomGaps : Type 0
AtomGaps = List (Atom × Ratio)

-- those of entries by falling weight, once the rows before them have made s: step takes up a row, and answer gives
-- the atom of the rows that are taken up
abbrev pub atom_gaps : {S : Type 0} → (S → Row → S) → (S → Atom) → S → Entries → AtomGaps
atom_gaps step answer s [] = []
atom_gaps step answer s (e ∷ es) =
    if ties_with e.1 es then atom_gaps step answer (step s e.0) es
    else (answer (step s e.0), down_to e.1 (weights_of es)) ∷ atom_gaps step answer (step s e.0) es

-- ---- the sums

-- half a level's gap, and the sum at its row with it, are in range
abbrev pub half_fits : Row → Dataset → Atom × Ratio → Bool
half_fits k A g = in_range (ratio_half g.1) && in_range (ratio_add (at A (k ++ g.0 ∷ [])) (ratio_half g.1))

-- A once half of a level's gap is added at its row
abbrev pub with_half : Row → Dataset → Atom × Ratio → Dataset
with_half k A g = add_at (k ++ g.0 ∷ []) (ratio_half g.1) A

-- A once all levels are added, or nothing where a value is out of range
abbrev pub with_halves : Row → Dataset → AtomGaps → Option Dataset
with_halves k A [] = Some A
with_halves k A (g ∷ gs) = if in_range g.1 && half_fits k A g then with_halves k (with_half k A g) gs else None

-- the output of a part by falling weight
abbrev pub walked : {S : Type 0} → (S → Row → S) → (S → Atom) → S → Row → Entries → Option Dataset
walked step answer s k es = with_halves k empty (atom_gaps step answer s es)
