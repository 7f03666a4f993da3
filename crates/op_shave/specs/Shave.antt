-- Shave: the weight of each row cut into pieces.
use Rattle.std.specs.Prelude.{◌-◌, Bool, ◌&&◌, List, length, take}
use Rattle.ratios.specs.Ratio.{Ratio}
use Rattle.record_text.specs.declared.kinds.Kind.{Kind}
use Rattle.datasets.specs.Dataset.{Dataset, empty}
use Rattle.datasets.specs.Entries.{Row}
use Rattle.operators.specs.InRange.{shave_in_range, weights_in_range}
use Rattle.operators.specs.Keys.{one_key, one_row}
use Rattle.operators.specs.Operators.{shaved}
use Rattle.plan_model.specs.Evaluation.{pieces}
use Rattle.plan_model.specs.declared.step.Run.{Run}
use Rattle.weighted_set.specs.declared.part_op.Side.{Side}
use Rattle.weighted_set.specs.declared.part_op.Side.TheVariants.{Left, Right}

-- a shave: its pieces, as runs, and the columns of the rows that it takes
pub record ShaveParts : Type 0 where
  pub runs : List Run
  pub cols : List Kind

-- a row on the left is its own key; the right has no keys
abbrev pub shave_keys : Side → Row → Dataset
shave_keys Left x = one_key x
shave_keys Right x = empty

-- the row before its last atom
abbrev pub without_last : Row → Row
without_last z = take (length z - 1) z

-- what is left of a weight before each piece, where that is above 0, and each output weight are in range
abbrev pub shave_fits : List Ratio → Dataset → Bool
shave_fits fs A = shave_in_range fs A && weights_in_range (shaved fs A)

-- a weight at a row, cut into the pieces of runs
abbrev pub shaved_row : List Run → Row → Ratio → Dataset
shaved_row runs x w = shaved (pieces runs) (one_row x w)

-- what is left of it before each piece, where that is above 0, and each output weight are in range
abbrev pub row_fits : List Run → Row → Ratio → Bool
row_fits runs x w = shave_fits (pieces runs) (one_row x w)
