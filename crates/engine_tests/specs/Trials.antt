-- What tests keep of operators.
use Rattle.std.specs.Prelude.{◌≡◌, false, true}
use Rattle.datasets.specs.Dataset.{Dataset}
use Rattle.plan_model.specs.Types.{HasColumns}
use Rattle.weighted_set.specs.Standing.{Standing}
use Rattle.trial_rows.specs.Columns.{two_ints}

-- the engine takes rows of two numbers on either side, and it stands for A and B; nothing is pending
pub record Serves {E : Type 0} (of : E → Standing) (engine : E) (A B : Dataset) : Type 0 where
  pub left_columns : HasColumns two_ints A
  pub right_columns : HasColumns two_ints B
  pub idle : (of engine).is_pending ≡ false
  pub stands : (of engine).StandsFor A B
  pub fits : (of engine).meaning.fits A B ≡ true
  pub takes : (C D : Dataset) → HasColumns two_ints C → HasColumns two_ints D → (of engine).meaning.takes C D ≡ true
