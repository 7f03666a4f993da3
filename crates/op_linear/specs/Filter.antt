-- Filter: the rows that pass a test.
use Rattle.std.specs.Prelude.{List}
use Rattle.record_text.specs.declared.kinds.Kind.{Kind}
use Rattle.datasets.specs.Dataset.{Dataset, empty}
use Rattle.datasets.specs.Entries.{Row}
use Rattle.operators.specs.Keys.{passing_key}
use Rattle.plan_model.specs.Evaluation.{passes}
use Rattle.plan_model.specs.declared.expr.Expr.{Expr}
use Rattle.weighted_set.specs.declared.part_op.Side.{Side}
use Rattle.weighted_set.specs.declared.part_op.Side.TheVariants.{Left, Right}

-- a filter: its test, and the columns of the rows that it takes
pub record FilterParts : Type 0 where
  pub test : Expr
  pub cols : List Kind

-- a row on the left that passes is its own key; the right has no keys
abbrev pub filter_keys : FilterParts → Side → Row → Dataset
filter_keys op Left x = passing_key (passes op.test) x
filter_keys op Right x = empty
