-- Which plans are accepted for some sources, and the first fault of those that are not.
use Rattle.std.specs.Prelude.{◌≡◌, ℕ, Bool, ◌&&◌, true, not, nat_le, nat_lt, if◌then◌else◌, List, [], ◌∷◌, ◌++◌, length, Option, Some, None, option_to_list, flat_map}
use Rattle.std.specs.List.{list_all}
use Rattle.record_text.specs.declared.kinds.Kind.{Kind}
use Rattle.record_text.specs.declared.kinds.Kind.TheVariants.{Int}
use Rattle.record_text.specs.KindLists.{kind_eq, kinds_eq}
use Rattle.plan_model.specs.declared.expr.Expr.{Expr}
use Rattle.plan_model.specs.declared.plan.What.{What}
use Rattle.plan_model.specs.declared.step.Item.{Item}
use Rattle.plan_model.specs.declared.step.Reducer.{Reducer}
use Rattle.plan_model.specs.declared.step.Step.{Step}
use Rattle.plan_model.specs.declared.source_types.SourceType.{SourceType}
use Rattle.plan_model.specs.Sizes.{max_width}
use Rattle.plan_model.specs.Sources.{has_name}
use Rattle.plan_model.specs.Types.{column_kind, columns, columns_step, first_row, kind_over, kinds_over, left_columns, left_sign, right_columns, signs}
use Rattle.plan_model.specs.Uses.{counts_of_step}
use Rattle.plan_model.specs.Values.{has_columns, is_typed, term_of}

-- ---- the parts of a step

-- every column that the expressions read is below the width
abbrev pub have_columns : List Kind → List Expr → Bool
have_columns cols es = list_all (λ e. has_columns (length cols) (term_of e)) es

-- each expression has a kind
abbrev pub have_kinds : List Kind → List Expr → Bool
have_kinds cols es = list_all (λ e. is_typed cols (term_of e)) es

-- each expression is an Int
abbrev pub are_ints : List Kind → List Expr → Bool
are_ints cols es = list_all (λ e. is_typed cols (term_of e) && kind_eq Int (kind_over cols e)) es

-- the guards of items that have one
abbrev pub guards : List Item → List Expr
guards items = flat_map (λ i. option_to_list i.guard) items

-- the expressions of items
abbrev pub item_exprs : List Item → List Expr
item_exprs items = flat_map (λ i. option_to_list i.guard ++ i.row) items

-- the columns that a reducer reads
abbrev pub reducer_columns : Reducer → List ℕ
reducer_columns Reducer.Count = []
reducer_columns (Reducer.Min c) = c ∷ []
reducer_columns (Reducer.Max c) = c ∷ []
reducer_columns (Reducer.Sum c) = c ∷ []

-- a sum is of an Int column
abbrev pub reducer_has_kind : List Kind → Reducer → Bool
reducer_has_kind cols Reducer.Count = true
reducer_has_kind cols (Reducer.Min c) = true
reducer_has_kind cols (Reducer.Max c) = true
reducer_has_kind cols (Reducer.Sum c) = kind_eq Int (column_kind cols c)

-- ---- what the six checks of a step test, on the columns and the signs of its left and its right input

-- a source step names a source
abbrev pub knows_source : List SourceType → Step → Bool
knows_source types (Step.Source name) = has_name types name
knows_source types _ = true

-- every column is below the input's width, a left key's below the left input's and a right key's below the
-- right one's
abbrev pub reads_columns : Step → List Kind → List Kind → Bool
reads_columns (Step.Source name) left right = true
reads_columns (Step.Filter of test) left right = have_columns left (test ∷ [])
reads_columns (Step.Select of row) left right = have_columns left row
reads_columns (Step.Many of over items) left right = have_columns left (item_exprs items)
reads_columns (Step.Shave of runs) left right = true
reads_columns (Step.Set kind i j) left right = true
reads_columns (Step.Join i j left_key right_key) left right = have_columns left left_key && have_columns right right_key
reads_columns (Step.Group of key reduce) left right = have_columns left key && list_all (λ c. nat_lt c (length left)) (reducer_columns reduce)

-- every expression has a kind, tests and guards are Ints, the rows of all items have the same kinds, the inputs
-- of a set operator have the same columns, the two keys of a join have the same kinds, and a sum is of an Int
-- column
abbrev pub matches_kinds : Step → List Kind → List Kind → Bool
matches_kinds (Step.Source name) left right = true
matches_kinds (Step.Filter of test) left right = are_ints left (test ∷ [])
matches_kinds (Step.Select of row) left right = have_kinds left row
matches_kinds (Step.Many of over items) left right =
    are_ints left (guards items)
    && list_all (λ i. have_kinds left i.row && kinds_eq (kinds_over left (first_row items)) (kinds_over left i.row)) items
matches_kinds (Step.Shave of runs) left right = true
matches_kinds (Step.Set kind i j) left right = kinds_eq left right
matches_kinds (Step.Join i j left_key right_key) left right =
    have_kinds left left_key && have_kinds right right_key && kinds_eq (kinds_over left left_key) (kinds_over right right_key)
matches_kinds (Step.Group of key reduce) left right = have_kinds left key && reducer_has_kind left reduce

-- a group's input can't be negative
abbrev pub takes_sign : Step → Bool → Bool
takes_sign (Step.Group of key reduce) left = not left
takes_sign _ left = true

-- ---- the checks, each true where the step passes; cs and bs are the columns and the signs of the steps before

abbrev pub step_has_columns : List SourceType → Step → List (List Kind) → Bool
step_has_columns types s cs = reads_columns s (left_columns types cs s) (right_columns cs s)

abbrev pub step_has_kinds : List SourceType → Step → List (List Kind) → Bool
step_has_kinds types s cs = matches_kinds s (left_columns types cs s) (right_columns cs s)

-- the step has at most as many columns as a row may have
abbrev pub is_narrow : List SourceType → Step → List (List Kind) → Bool
is_narrow types s cs = nat_le (length (columns_step types s cs)) max_width

abbrev pub may_group : List SourceType → Step → List Bool → Bool
may_group types s bs = takes_sign s (left_sign types bs s)

-- the most that a step may use a source
abbrev pub max_uses : ℕ
max_uses = 1000000

-- no source is used more often than that
abbrev pub are_few : List ℕ → Bool
are_few counts = list_all (λ n. nat_le n max_uses) counts

-- ---- faults

-- the first fault of a step, in the order of the checks; counts says how often the step uses each source
abbrev pub first_fault : List SourceType → Step → List (List Kind) → List Bool → List ℕ → Option What
first_fault types s cs bs counts =
    if not (knows_source types s) then Some What.UnknownSource
    else if not (step_has_columns types s cs) then Some What.Column
    else if not (step_has_kinds types s cs) then Some What.Kind
    else if not (is_narrow types s cs) then Some What.TooWide
    else if not (may_group types s bs) then Some What.Negative
    else if not (are_few counts) then Some What.UsesOver
    else None

-- the first fault of a step after those before it
abbrev pub fault_of_step : List SourceType → List Step → Step → Option What
fault_of_step types before s = first_fault types s (columns before types) (signs before types) (counts_of_step types before s)

-- a step with its fault
pub record Fault : Type 0 where
  pub step : ℕ
  pub what : What

-- the fault of the step at a place, where it has one, and else the other
abbrev pub fault_or : ℕ → Option What → Option Fault → Option Fault
fault_or at (Some what) other = Some (record { step = at; what = what })
fault_or at None other = other

-- the first faulty step after those before, with its fault
abbrev pub fault_after : List SourceType → List Step → List Step → Option Fault
fault_after types before [] = None
fault_after types before (s ∷ ss) = fault_or (length before) (fault_of_step types before s) (fault_after types (before ++ s ∷ []) ss)

-- the first faulty step of a plan, with its fault
abbrev pub plan_fault_of : List Step → List SourceType → Option Fault
plan_fault_of p types = fault_after types [] p

-- no step has a fault
abbrev pub Accepts : List Step → List SourceType → Type 0
Accepts p types = plan_fault_of p types ≡ None
