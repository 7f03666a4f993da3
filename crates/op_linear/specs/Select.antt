-- Select: each row adds its weight to the row that expressions make of it.
use Rattle.std.specs.Prelude.{Bool, ◌&&◌, List}
use Rattle.record_text.specs.declared.kinds.Kind.{Kind}
use Rattle.datasets.specs.Dataset.{Dataset, empty}
use Rattle.datasets.specs.Entries.{Row}
use Rattle.operators.specs.InRange.{select_in_range, weights_in_range}
use Rattle.operators.specs.Keys.{one_key}
use Rattle.operators.specs.Operators.{selected}
use Rattle.plan_model.specs.Evaluation.{row_of}
use Rattle.plan_model.specs.declared.expr.Expr.{Expr}
use Rattle.weighted_set.specs.declared.part_op.Side.{Side}
use Rattle.weighted_set.specs.declared.part_op.Side.TheVariants.{Left, Right}

-- a select: its expressions, and the columns of the rows that it takes
pub record SelectParts : Type 0 where
  pub row : List Expr
  pub cols : List Kind

-- the key of a row on the left is the row that the expressions make of it; the right has no keys
abbrev pub select_keys : SelectParts → Side → Row → Dataset
select_keys op Left x = one_key (row_of op.row x)
select_keys op Right x = empty

-- each running sum at an output row and each output weight is in range
abbrev pub select_fits : SelectParts → Dataset → Bool
select_fits op A = select_in_range (row_of op.row) A && weights_in_range (selected (row_of op.row) A)
