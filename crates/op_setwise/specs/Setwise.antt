-- Set operators: at each row, the greater, the less, the sum or the difference of its two weights.
use Rattle.std.specs.Prelude.{Bool, List, Option, Some}
use Rattle.ratios.specs.Range.{checked}
use Rattle.ratios.specs.Ratio.{Ratio, ratio_add, ratio_max, ratio_min, ratio_sub}
use Rattle.record_text.specs.declared.kinds.Kind.{Kind}
use Rattle.datasets.specs.Dataset.{Dataset}
use Rattle.datasets.specs.Entries.{Row}
use Rattle.operators.specs.InRange.{weights_in_range}
use Rattle.operators.specs.Keys.{one_key}
use Rattle.operators.specs.Operators.{pointwise}
use Rattle.plan_model.specs.Evaluation.{set_weight}
use Rattle.plan_model.specs.declared.step.SetKind.{SetKind}
use Rattle.weighted_set.specs.declared.part_op.Side.{Side}
use Rattle.op_parts.specs.Takes.{HasOnly}

-- a set operator: which, and the columns of the rows that it takes
pub record SetParts : Type 0 where
  pub kind : SetKind
  pub cols : List Kind

-- a row is its own key on both sides
abbrev pub set_keys : Side → Row → Dataset
set_keys side x = one_key x

-- the output on two inputs, or at a key on its two parts
abbrev pub set_output : SetParts → Dataset → Dataset → Dataset
set_output op A B = pointwise (set_weight op.kind) A B

-- each output weight is in range
abbrev pub set_fits : SetParts → Dataset → Dataset → Bool
set_fits op A B = weights_in_range (set_output op A B)

-- no other row than k has a weight in either part
abbrev pub BothHaveOnly : Row → Dataset → Dataset → Type 0
BothHaveOnly k A B = HasOnly k A × HasOnly k B

-- the weight of a row from its two weights, or nothing where their sum or difference is out of range
abbrev pub checked_weight : SetKind → Ratio → Ratio → Option Ratio
checked_weight SetKind.Union a b = Some (ratio_max a b)
checked_weight SetKind.Intersect a b = Some (ratio_min a b)
checked_weight SetKind.Concat a b = checked (ratio_add a b)
checked_weight SetKind.Except a b = checked (ratio_sub a b)
