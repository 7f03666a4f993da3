-- Datasets by the weights of their rows.
use Rattle.std.specs.Prelude.{List, filter, flat_map, map}
use Rattle.ratios.specs.Ratio.{Ratio}
use Rattle.datasets.specs.Dataset.{Dataset, dataset_of, empty, with_added}
use Rattle.datasets.specs.Entries.{Entries, Row, same_row}

-- the dataset with the weight f x at each row x of a list, and with no other row
abbrev pub tabulated : (Row → Ratio) → List Row → Dataset
tabulated f xs = dataset_of (map (λ x. (x, f x)) xs)

-- the dataset in which each entry adds its weight to its row
abbrev pub collected : Entries → Dataset
collected es = with_added empty es

-- the weights of the entries of the row z, in list order
abbrev pub weights_at : Row → Entries → List Ratio
weights_at z es = map (λ e. e.1) (filter (λ e. same_row z e.0) es)

-- the weights of those members x of a list that give the row z, in list order
abbrev pub weights_for : {X : Type 0} → (X → Row) → (X → Ratio) → List X → Row → List Ratio
weights_for row weight xs z = map weight (filter (λ x. same_row z (row x)) xs)

-- the dataset in which each member x of a list adds the weight `weight x` to the row `row x`
abbrev pub gathered : {X : Type 0} → (X → Row) → (X → Ratio) → List X → Dataset
gathered row weight xs = collected (map (λ x. (row x, weight x)) xs)

-- each member of a list with each of its own members
abbrev pub pairs : {X Y : Type 0} → List X → (X → List Y) → List (X × Y)
pairs xs f = flat_map (λ x. map (λ y. (x, y)) (f x)) xs
