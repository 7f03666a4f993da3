-- Which rows an operator of one input takes.
use Rattle.std.specs.Prelude.{◌≡◌, ◌≢◌, Bool, ◌&&◌, List}
use Rattle.std.specs.List.{list_all}
use Rattle.ratios.specs.Ratio.{zero_ratio}
use Rattle.record_text.specs.KindLists.{kinds_eq, kinds_of}
use Rattle.record_text.specs.declared.kinds.Kind.{Kind}
use Rattle.datasets.specs.Dataset.{Dataset, at, rows}
use Rattle.datasets.specs.Entries.{Row}
use Rattle.weighted_set.specs.declared.part_op.Side.{Side}
use Rattle.weighted_set.specs.declared.part_op.Side.TheVariants.{Left, Right}

-- a row on the left with these columns; nothing is asked of the right
abbrev pub LeftHasColumns : List Kind → Side → Row → Type 0
LeftHasColumns cols Left x = kinds_of x ≡ cols
LeftHasColumns cols Right x = Unit {0}

-- no other row than k has a weight
abbrev pub HasOnly : Row → Dataset → Type 0
HasOnly k A = (z : Row) → at A z ≢ zero_ratio → z ≡ k

-- whether each row has these columns
abbrev pub has_columns : List Kind → Dataset → Bool
has_columns cols A = list_all (λ x. kinds_eq (kinds_of x) cols) (rows A)

-- whether each row of either dataset has these columns
abbrev pub both_have_columns : List Kind → Dataset → Dataset → Bool
both_have_columns cols A B = has_columns cols A && has_columns cols B
