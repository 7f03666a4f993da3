-- The keys of rows of two numbers.
use Rattle.std.specs.Prelude.{◌≡◌, List}
use Rattle.record_text.specs.KindLists.{kinds_of}
use Rattle.datasets.specs.Entries.{Row}
use Rattle.plan_model.specs.Evaluation.{row_of}
use Rattle.plan_model.specs.declared.expr.Expr.{Expr}
use Rattle.trial_rows.specs.Columns.{two_ints}

-- a row of two numbers of which the expressions make the row k
pub record IsOfKey (exprs : List Expr) (k x : Row) : Type 0 where
  pub columns : kinds_of x ≡ two_ints
  pub key : row_of exprs x ≡ k
