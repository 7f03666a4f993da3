-- Families of datasets: one for each source, or for each step.
use Rattle.std.specs.Prelude.{ℕ, List, get_or}
use Rattle.datasets.specs.Dataset.{Dataset, empty}

-- a family: one dataset for each source, in the order of the sources
abbrev pub Family : Type 0
Family = List Dataset

-- the dataset at a place, empty past the end
abbrev pub dataset_at : List Dataset → ℕ → Dataset
dataset_at As i = get_or As i empty
