-- Weights written out.
use Rattle.std.specs.Prelude.{◌≡◌, ℕ, ℤ, pos, List, map}
use Rattle.std.specs.List.{AllByRecursion}
use Rattle.record_text.specs.declared.atom.Atom.TheVariants.{Int}
use Rattle.datasets.specs.Dataset.{Dataset, at}
use Rattle.datasets.specs.Entries.{Row}

-- the row of these Ints
abbrev pub ints : List ℕ → Row
ints ns = map (λ n. Int (pos n)) ns

-- a row of Ints with the numerator and the denominator of its weight
abbrev pub Weight : Type 0
Weight = List ℕ × ℤ × ℕ

-- the dataset has each of these weights
abbrev pub HasWeights : Dataset → List Weight → Type 0
HasWeights A ws = AllByRecursion (λ w. ((at A (ints w.0)).num ≡ w.1) × ((at A (ints w.0)).den ≡ w.2)) ws
