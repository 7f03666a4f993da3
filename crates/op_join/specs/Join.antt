-- Join: each row of the left input followed by each row of the right one that has the same key.
use Rattle.std.specs.Prelude.{◌≡◌, ◌≢◌, Bool, true, false, ◌&&◌, ◌||◌, if◌then◌else◌, List, [], ◌∷◌, length, Option, None, Some, take}
use Rattle.ratios.specs.Ratio.{Ratio, ratio_add, ratio_div, ratio_mul, zero_ratio}
use Rattle.record_text.specs.KindLists.{kinds_of}
use Rattle.record_text.specs.declared.kinds.Kind.{Kind}
use Rattle.datasets.specs.Dataset.{Dataset, at, norm, rows}
use Rattle.datasets.specs.Entries.{Row}
use Rattle.operators.specs.InRange.{join_in_range, key_in_range, weights_in_range}
use Rattle.operators.specs.Keys.{one_key}
use Rattle.operators.specs.Operators.{both_rows, joined}
use Rattle.operators.specs.Weights.{gathered, pairs}
use Rattle.plan_model.specs.Evaluation.{row_of}
use Rattle.plan_model.specs.Types.{HasColumns}
use Rattle.plan_model.specs.declared.expr.Expr.{Expr}
use Rattle.weighted_set.specs.declared.part_op.Side.{Side}
use Rattle.weighted_set.specs.declared.part_op.Side.TheVariants.{Left, Right}
use Rattle.op_parts.specs.Takes.{has_columns}

-- a join: the expressions of its keys, and the columns of the rows that it takes, on the left and on the right
pub record JoinParts : Type 0 where
  pub left_key : List Expr
  pub right_key : List Expr
  pub left : List Kind
  pub right : List Kind

-- the expressions of a side's key
abbrev pub side_key : JoinParts → Side → List Expr
side_key op Left = op.left_key
side_key op Right = op.right_key

-- the columns of a side
abbrev pub side_columns : JoinParts → Side → List Kind
side_columns op Left = op.left
side_columns op Right = op.right

-- the key of a row is the row that the expressions of its side make of it
abbrev pub join_keys : JoinParts → Side → Row → Dataset
join_keys op side x = one_key (row_of (side_key op side) x)

-- an output row comes from the key of its front, which is a row of the left input
abbrev pub join_owner : JoinParts → Row → Row
join_owner op z = row_of op.left_key (take (length op.left) z)

-- the rows of both inputs with equal keys, as pairs
abbrev pub join_output : JoinParts → Dataset → Dataset → Dataset
join_output op A B = joined (row_of op.left_key) (row_of op.right_key) A B

-- the values that the join passes through and the output weights are in range
abbrev pub join_fits : JoinParts → Dataset → Dataset → Bool
join_fits op A B = join_in_range (row_of op.left_key) (row_of op.right_key) A B && weights_in_range (join_output op A B)

-- ---- the parts of one key

-- A(x) * B(y) / (Norm(A) + Norm(B))
abbrev pub pair_weight : Dataset → Dataset → Row × Row → Ratio
pair_weight A B p = ratio_div (ratio_mul (at A p.0) (at B p.1)) (ratio_add (norm A) (norm B))

-- each row x of A with each row y of B: at x followed by y, their weight as a pair
abbrev pub joined_part : Dataset → Dataset → Dataset
joined_part A B = gathered both_rows (pair_weight A B) (pairs (rows A) (λ x. rows B))

-- the list has no member
abbrev pub is_empty : {X : Type 0} → List X → Bool
is_empty [] = true
is_empty (x ∷ xs) = false

-- the dataset has no row
abbrev pub has_no_row : Dataset → Bool
has_no_row A = is_empty (rows A)

-- where both parts have rows: the running sums of both norms, their sum and each output weight are in range
abbrev pub part_in_range : Dataset → Dataset → Bool
part_in_range A B = has_no_row A || has_no_row B || (key_in_range A B && weights_in_range (joined_part A B))

-- the sum of both norms, or nothing where it or a running sum of a norm is out of range
abbrev pub checked_norms : Dataset → Dataset → Option Ratio
checked_norms A B = if key_in_range A B then Some (ratio_add (norm A) (norm B)) else None

-- ---- what it takes

-- the inputs have the columns of their sides
abbrev pub join_takes : JoinParts → Dataset → Dataset → Bool
join_takes op A B = has_columns op.left A && has_columns op.right B

-- a row with the columns of its side
abbrev pub IsJoinRow : JoinParts → Side → Row → Type 0
IsJoinRow op side x = kinds_of x ≡ side_columns op side

-- the parts have the columns of their sides, and each row on the left has the key k
abbrev pub TakesJoinPart : JoinParts → Row → Dataset → Dataset → Type 0
TakesJoinPart op k A B = HasColumns op.left A × HasColumns op.right B × ((x : Row) → at A x ≢ zero_ratio → row_of op.left_key x ≡ k)
