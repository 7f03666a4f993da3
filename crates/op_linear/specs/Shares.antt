-- The weights that items give to the rows that they make of one row.
use Rattle.std.specs.Prelude.{◌≡◌, ◌+◌, ◌<◌, ℕ, All, List, filter, if◌then◌else◌, map, pos, unwrap_or}
use Rattle.std.specs.Map.{lookup, values_of}
use Rattle.ratios.specs.Ratio.{ratio}
use Rattle.datasets.specs.Entries.{Entries, Row, same_row}
use Rattle.operators.specs.Operators.{Giving, applying, weight_of}
use Rattle.plan_model.specs.Evaluation.{guarded, row_of}
use Rattle.plan_model.specs.declared.step.Item.{Item}

-- rows, each with the weight of the items that give it
abbrev pub RowSums : Type 0
RowSums = List (Row × ℕ)

-- the weight of a row, 0 where it is absent
abbrev pub sum_at : RowSums → Row → ℕ
sum_at es z = unwrap_or (lookup (same_row z) es) 0

-- no weight is 0
abbrev pub AreAboveZero : RowSums → Type 0
AreAboveZero es = All (λ n. 0 < n) (values_of es)

-- each weight divided
abbrev pub divided : ℕ → RowSums → Entries
divided d es = map (λ e. (e.0, ratio (pos e.1) (pos d))) es

-- an item, as a function of rows
abbrev pub giving_of : Item → Giving
giving_of i = record { weight = i.weight; applies = guarded i.guard; row = row_of i.row }

-- the weight of an item where it applies to y, else 0
abbrev pub weight_on : Giving → Row → ℕ
weight_on i y = if i.applies y then i.weight else 0

-- that weight where the item gives z, else 0
abbrev pub weight_for : Giving → Row → Row → ℕ
weight_for i y z = if same_row z (i.row y) then weight_on i y else 0

-- the weight of x is w more, and every other row keeps its own
abbrev pub AddsWeight : Row → ℕ → RowSums → RowSums → Type 0
AddsWeight x w old new = (z : Row) → sum_at new z ≡ sum_at old z + (if same_row z x then w else 0)

-- the item's weight on y is added to that of the row that it makes of y, and every other row keeps its own
abbrev pub AddsItem : Giving → Row → RowSums → RowSums → Type 0
AddsItem i y old new = (z : Row) → sum_at new z ≡ sum_at old z + weight_for i y z

-- the weight of the items that apply to y and give z
abbrev pub given : List Giving → Row → Row → ℕ
given items y z = weight_of (filter (λ i. same_row z (i.row y)) (applying items y))
