-- Group: each key's rows, reduced at each level of their weights.
use Rattle.std.specs.Prelude.{◌&&◌, ◌≡◌, ◌≢◌, Bool, List, length, map, nat_lt, Option}
use Rattle.std.specs.Borrow.{Bor}
use Rattle.std.specs.List.{list_all}
use Rattle.ratios.specs.Ratio.{zero_ratio}
use Rattle.record_text.specs.declared.kinds.Kind.{Kind}
use Rattle.datasets.specs.Dataset.{Dataset, at, empty}
use Rattle.datasets.specs.Entries.{Entries, Row}
use Rattle.operators.specs.InRange.{group_in_range, weights_in_range}
use Rattle.operators.specs.Keys.{one_key}
use Rattle.operators.specs.Operators.{grouped}
use Rattle.plan_model.specs.Acceptance.{reducer_columns}
use Rattle.plan_model.specs.Evaluation.{reduced_to, row_of}
use Rattle.plan_model.specs.declared.expr.Expr.{Expr}
use Rattle.plan_model.specs.declared.step.Reducer.{Reducer}
use Rattle.weighted_set.specs.Changes.{entries_of}
use Rattle.weighted_set.specs.declared.part_op.Side.{Side}
use Rattle.weighted_set.specs.declared.part_op.Side.TheVariants.{Left, Right}
use Rattle.weighted_set.specs.declared.weighted.Weighted.{Weighted}
use Rattle.level_walks.specs.Walks.{walked as walked_by}
use Rattle.op_groupby.specs.Taking.{answer, none_taken, with_taken}

-- a group: its key, its reducer, and the columns of the rows that it takes
pub record GroupParts : Type 0 where
  pub key : List Expr
  pub reduce : Reducer
  pub cols : List Kind

-- a row on the left has the key that the expressions make of it; the right has no keys
abbrev pub group_keys : GroupParts → Side → Row → Dataset
group_keys op Left x = one_key (row_of op.key x)
group_keys op Right x = empty

-- the column that the reducer reads, if it reads one, is below the width
abbrev pub reads_within : List Kind → Reducer → Bool
reads_within cols reduce = list_all (λ c. nat_lt c (length cols)) (reducer_columns reduce)

-- the rows with a weight have the key k
abbrev pub HasKey : GroupParts → Row → Dataset → Type 0
HasKey op k A = (x : Row) → at A x ≢ zero_ratio → row_of op.key x ≡ k

-- each gap, each half gap, each running sum at an output row and each output weight are in range
abbrev pub group_fits : GroupParts → Dataset → Bool
group_fits op A = group_in_range (row_of op.key) (reduced_to op.reduce) A && weights_in_range (grouped (row_of op.key) (reduced_to op.reduce) A)

-- ---- a part by falling weight

-- the rows that are referred to, with their weights
abbrev pub ordered : List (Bor Weighted) → Entries
ordered order = entries_of (map (λ e. e.now) order)

-- their output, or nothing where a value is out of range
abbrev pub walked : Reducer → Row → Entries → Option Dataset
walked reduce k es = walked_by (with_taken reduce) (answer reduce) none_taken k es
