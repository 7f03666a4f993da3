-- The columns and the signs of a plan's steps, and which families have the types of their sources.
use Rattle.std.specs.Prelude.{◌≡◌, ℕ, Bool, ◌&&◌, ◌||◌, false, true, List, [], ◌∷◌, ◌++◌, map, slice_get, slice_index_or, Option, option_and_then, option_map}
use Rattle.std.specs.List.{AllByRecursion}
use Rattle.std.specs.Option.{unwrap_or}
use Rattle.record_text.specs.declared.kinds.Kind.{Kind}
use Rattle.record_text.specs.declared.kinds.Kind.TheVariants.{Int}
use Rattle.record_text.specs.KindLists.{kinds_of}
use Rattle.datasets.specs.Dataset.{Dataset, rows}
use Rattle.operators.specs.Laws.{NoneNegative}
use Rattle.plan_model.specs.declared.expr.Expr.{Expr}
use Rattle.plan_model.specs.declared.step.Item.{Item}
use Rattle.plan_model.specs.declared.step.Reducer.{Reducer}
use Rattle.plan_model.specs.declared.step.SetKind.{SetKind}
use Rattle.plan_model.specs.declared.step.Step.{Step}
use Rattle.plan_model.specs.declared.source_types.SourceType.{SourceType}
use Rattle.plan_model.specs.Evaluation.{Family, step_by_step}
use Rattle.plan_model.specs.Inputs.{of_left, of_right}
use Rattle.plan_model.specs.Sources.{place_of}
use Rattle.plan_model.specs.Values.{kind_in, term_of}

-- ---- datasets

-- each row has these columns
abbrev pub HasColumns : List Kind → Dataset → Type 0
HasColumns cols A = AllByRecursion (λ x. kinds_of x ≡ cols) (rows A)

-- the rows have the columns of the source, and no weight is negative where the source isn't signed
pub record KeepsType (t : SourceType) (A : Dataset) : Type 0 where
  pub columns : HasColumns t.kinds A
  pub sign : t.signed ≡ false → NoneNegative A

-- there is one dataset for each source, and it keeps the source's type
abbrev pub Keeps : List SourceType → Family → Type 0
Keeps [] [] = Unit {0}
Keeps [] (A ∷ F) = ⊥
Keeps (t ∷ types) [] = ⊥
Keeps (t ∷ types) (A ∷ F) = KeepsType t A × Keeps types F

-- ---- columns

-- the source of a name, if there is one
abbrev pub source_named : List ℕ → List SourceType → Option SourceType
source_named name types = option_and_then (slice_get types) (place_of name types)

-- the columns of the step at a place
abbrev pub columns_at : List (List Kind) → ℕ → List Kind
columns_at cs i = slice_index_or cs i []

-- the kind of an expression that has one over these columns
abbrev pub kind_over : List Kind → Expr → Kind
kind_over cols e = unwrap_or (kind_in cols (term_of e)) Int

-- the kinds of expressions
abbrev pub kinds_over : List Kind → List Expr → List Kind
kinds_over cols es = map (kind_over cols) es

-- the row of the first item
abbrev pub first_row : List Item → List Expr
first_row [] = []
first_row (i ∷ items) = i.row

-- the kind of a column
abbrev pub column_kind : List Kind → ℕ → Kind
column_kind cols c = slice_index_or cols c Int

-- the kind of what a reducer answers: that of the column for the least and the greatest, else Int
abbrev pub reducer_kind : List Kind → Reducer → Kind
reducer_kind cols Reducer.Count = Int
reducer_kind cols (Reducer.Min c) = column_kind cols c
reducer_kind cols (Reducer.Max c) = column_kind cols c
reducer_kind cols (Reducer.Sum c) = Int

-- the columns that a step makes of those of its left and its right input: a source's are its own, and a shave's
-- are its input's and Int, a join's those of both inputs, a group's those of its key and of its reducer
abbrev pub output_columns : Step → List Kind → List Kind → List Kind
output_columns (Step.Source name) left right = left
output_columns (Step.Filter of test) left right = left
output_columns (Step.Select of row) left right = kinds_over left row
output_columns (Step.Many of over items) left right = kinds_over left (first_row items)
output_columns (Step.Shave of runs) left right = left ++ Int ∷ []
output_columns (Step.Set kind i j) left right = left
output_columns (Step.Join i j left_key right_key) left right = left ++ right
output_columns (Step.Group of key reduce) left right = kinds_over left key ++ reducer_kind left reduce ∷ []

-- the columns of the left input: a source's own at its step, else those of the step named first; cs are those of
-- the steps
abbrev pub left_columns : List SourceType → List (List Kind) → Step → List Kind
left_columns types cs (Step.Source name) = unwrap_or (option_map (λ t. t.kinds) (source_named name types)) []
left_columns types cs s = of_left [] cs s

-- the columns of the right input, none where there is none
abbrev pub right_columns : List (List Kind) → Step → List Kind
right_columns cs s = of_right [] cs s

-- the columns of a step
abbrev pub columns_step : List SourceType → Step → List (List Kind) → List Kind
columns_step types s cs = output_columns s (left_columns types cs s) (right_columns cs s)

-- the columns of all steps
abbrev pub columns : List Step → List SourceType → List (List Kind)
columns p types = step_by_step (columns_step types) p

-- ---- signs

abbrev pub flag_at : List Bool → ℕ → Bool
flag_at bs i = slice_index_or bs i true

-- a union may be negative where both inputs may, an intersection and a concat where one may, and an except
-- always
abbrev pub set_sign : SetKind → Bool → Bool → Bool
set_sign SetKind.Union a b = a && b
set_sign SetKind.Intersect a b = a || b
set_sign SetKind.Concat a b = a || b
set_sign SetKind.Except a b = true

-- whether a weight of a step may be negative, by whether one of its left and of its right input may: as the
-- input's at a source, a filter, a select and a many, where one input's may at a join, and never at a shave and a
-- group
abbrev pub output_sign : Step → Bool → Bool → Bool
output_sign (Step.Source name) left right = left
output_sign (Step.Filter of test) left right = left
output_sign (Step.Select of row) left right = left
output_sign (Step.Many of over items) left right = left
output_sign (Step.Shave of runs) left right = false
output_sign (Step.Set kind i j) left right = set_sign kind left right
output_sign (Step.Join i j left_key right_key) left right = left || right
output_sign (Step.Group of key reduce) left right = false

-- whether a weight of the left input may be negative: a source's as it is declared; bs are the signs of the steps
abbrev pub left_sign : List SourceType → List Bool → Step → Bool
left_sign types bs (Step.Source name) = unwrap_or (option_map (λ t. t.signed) (source_named name types)) true
left_sign types bs s = of_left true bs s

-- whether a weight of the right input may be negative
abbrev pub right_sign : List Bool → Step → Bool
right_sign bs s = of_right true bs s

-- whether a weight of a step may be negative
abbrev pub sign_step : List SourceType → Step → List Bool → Bool
sign_step types s bs = output_sign s (left_sign types bs s) (right_sign bs s)

-- the signs of all steps
abbrev pub signs : List Step → List SourceType → List Bool
signs p types = step_by_step (sign_step types) p

-- a weight of the step i may be negative
abbrev pub may_be_negative : List Step → List SourceType → ℕ → Bool
may_be_negative p types i = flag_at (signs p types) i
