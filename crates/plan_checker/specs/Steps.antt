-- The checks of a step over what was made of the steps before.
use Rattle.std.specs.Prelude.{ℕ, Bool, ◌&&◌, nat_lt, List, length, map}
use Rattle.std.specs.List.{list_all, range_with_len}
use Rattle.record_text.specs.declared.kinds.Kind.{Kind}
use Rattle.record_text.specs.declared.kinds.Kind.TheVariants.{Int}
use Rattle.record_text.specs.KindLists.{kind_eq, kinds_eq}
use Rattle.plan_model.specs.declared.expr.Expr.{Expr}
use Rattle.plan_model.specs.declared.source_types.SourceType.{SourceType}
use Rattle.plan_model.specs.declared.step.Item.{Item}
use Rattle.plan_model.specs.declared.step.Reducer.{Reducer}
use Rattle.plan_model.specs.declared.step.Step.{Step}
use Rattle.plan_model.specs.Acceptance.{have_kinds, reducer_columns}
use Rattle.plan_model.specs.Evaluation.{step_by_step}
use Rattle.plan_model.specs.Types.{first_row, kind_over, kinds_over}
use Rattle.plan_model.specs.Uses.{count_at, uses_step}
use Rattle.plan_model.specs.Values.{is_typed, term_of}

-- ---- parts of the checks

-- the expression is an Int
abbrev pub is_int : List Kind → Expr → Bool
is_int cols e = is_typed cols (term_of e) && kind_eq Int (kind_over cols e)

-- an item's row has kinds, which are these
abbrev pub row_has_kinds : List Kind → List Kind → Item → Bool
row_has_kinds cols first i = have_kinds cols i.row && kinds_eq first (kinds_over cols i.row)

-- the rows of items have kinds, those of the first item's row
abbrev pub rows_have_kinds : List Kind → List Item → Bool
rows_have_kinds cols items = list_all (row_has_kinds cols (kinds_over cols (first_row items))) items

-- the column that a reducer reads is below the width
abbrev pub reducer_has_columns : List Kind → Reducer → Bool
reducer_has_columns cols reduce = list_all (λ c. nat_lt c (length cols)) (reducer_columns reduce)

-- ---- uses

-- how often each of some steps uses the source at a place, where each step has its counts by source
abbrev pub counts_of : ℕ → List (List ℕ) → List ℕ
counts_of source made = map (λ counts. count_at counts source) made

-- how often a step uses each source, in the order of the sources
abbrev pub row_step : List SourceType → Step → List (List ℕ) → List ℕ
row_step types s made = map (λ source. uses_step types source s (counts_of source made)) (range_with_len 0 (length types))

-- how often each step uses each source
abbrev pub rows_of_steps : List Step → List SourceType → List (List ℕ)
rows_of_steps p types = step_by_step (row_step types) p
