-- The step that a value denotes, or the first fault of its walk.
use Rattle.std.specs.Prelude.{ℕ, List, [], ◌∷◌, length, codes, if◌then◌else◌, Option, Some, None, option_map, option_and_then, Result, Ok}
use Rattle.std.specs.Str.{bytes_eq}
use Rattle.serde_json.specs.Data.{Data, Members}
use Rattle.serde_json.specs.Find.{get, as_str, as_object}
use Rattle.json_fields.specs.Walk.{◌>>=◌}
use Rattle.plan_model.specs.declared.expr.Expr.{Expr}
use Rattle.plan_model.specs.declared.step.SetKind.{SetKind}
use Rattle.plan_model.specs.declared.step.SetKind.TheVariants as set
use Rattle.plan_model.specs.declared.step.Step.{Step}
use Rattle.plan_model.specs.declared.step.Step.TheVariants as step
use Rattle.plan_model.specs.Limits.{max_item_weight}
use Rattle.expr_text.specs.declared.fault.Field.TheVariants as field
use Rattle.expr_text.specs.declared.fault.PlanText.{PlanText}
use Rattle.expr_text.specs.Exprs.{expr_in, exprs_in}
use Rattle.expr_text.specs.Fields.{place, or_shape}
use Rattle.plan_reader.specs.declared.step.StepKind.{StepKind}
use Rattle.plan_reader.specs.declared.step.StepKind.TheVariants as kind
use Rattle.plan_reader.specs.Fields.{no_other, name_in, earlier_in, whole_in}
use Rattle.plan_reader.specs.Items.{items_in}
use Rattle.plan_reader.specs.Reducers.{reducer_in}
use Rattle.plan_reader.specs.Runs.{runs_in}

-- ---- what a step does

-- the set operator of a name
unfoldable pub set_named : List ℕ → Option SetKind
set_named text =
    if bytes_eq text (codes "union") then Some set.Union
    else if bytes_eq text (codes "intersect") then Some set.Intersect
    else if bytes_eq text (codes "concat") then Some set.Concat
    else if bytes_eq text (codes "except") then Some set.Except
    else None

-- what the text of the field `do` asks for
unfoldable pub kind_named : List ℕ → Option StepKind
kind_named text =
    if bytes_eq text (codes "source") then Some kind.Source
    else if bytes_eq text (codes "where") then Some kind.Where
    else if bytes_eq text (codes "select") then Some kind.Select
    else if bytes_eq text (codes "many") then Some kind.Many
    else if bytes_eq text (codes "shave") then Some kind.Shave
    else if bytes_eq text (codes "join") then Some kind.Join
    else if bytes_eq text (codes "group") then Some kind.Group
    else option_map kind.Set (set_named text)

abbrev pub kind_of : Data → Option StepKind
kind_of d = option_and_then kind_named (option_and_then as_str (get (codes "do") d))

-- the fields of a step
abbrev pub step_fields : StepKind → List (List ℕ)
step_fields kind.Source = codes "do" ∷ codes "name" ∷ []
step_fields kind.Where = codes "do" ∷ codes "of" ∷ codes "if" ∷ []
step_fields kind.Select = codes "do" ∷ codes "of" ∷ codes "row" ∷ []
step_fields kind.Many = codes "do" ∷ codes "of" ∷ codes "over" ∷ codes "items" ∷ []
step_fields kind.Shave = codes "do" ∷ codes "of" ∷ codes "runs" ∷ []
step_fields (kind.Set which) = codes "do" ∷ codes "left" ∷ codes "right" ∷ []
step_fields kind.Join = codes "do" ∷ codes "left" ∷ codes "right" ∷ codes "left_key" ∷ codes "right_key" ∷ []
step_fields kind.Group = codes "do" ∷ codes "of" ∷ codes "key" ∷ codes "reduce" ∷ []

-- ---- single fields

-- the earlier steps that a step refers to
unfoldable pub of_in : ℕ → Data → Result ℕ PlanText
of_in at d = earlier_in (place at field.Of) (codes "of") d

unfoldable pub left_in : ℕ → Data → Result ℕ PlanText
left_in at d = earlier_in (place at field.Left) (codes "left") d

unfoldable pub right_in : ℕ → Data → Result ℕ PlanText
right_in at d = earlier_in (place at field.Right) (codes "right") d

-- the keys on which rows are joined, and the one by which they are grouped
unfoldable pub left_key_in : ℕ → Data → Result (List Expr) PlanText
left_key_in at d = exprs_in (place at field.LeftKey) (get (codes "left_key") d)

unfoldable pub right_key_in : ℕ → Data → Result (List Expr) PlanText
right_key_in at d = exprs_in (place at field.RightKey) (get (codes "right_key") d)

unfoldable pub key_in : ℕ → Data → Result (List Expr) PlanText
key_in at d = exprs_in (place at field.Key) (get (codes "key") d)

-- what the weights of the items are over, 1 to 1,048,576
unfoldable pub over_in : ℕ → Data → Result ℕ PlanText
over_in at d = whole_in (place at field.Over) (codes "over") 1 max_item_weight d

-- ---- the walk over one step: its fields in their order, and then a field that it doesn't have

unfoldable pub source_in : ℕ → Data → Members → Result Step PlanText
source_in at d ms = do
  name ← name_in at d
  known ← no_other at (step_fields kind.Source) ms
  Ok (step.Source name)

unfoldable pub where_in : ℕ → Data → Members → Result Step PlanText
where_in at d ms = do
  from ← of_in at d
  found ← or_shape (place at field.If) (get (codes "if") d)
  test ← expr_in (place at field.If) found
  known ← no_other at (step_fields kind.Where) ms
  Ok (step.Filter from test)

unfoldable pub select_in : ℕ → Data → Members → Result Step PlanText
select_in at d ms = do
  from ← of_in at d
  row ← exprs_in (place at field.Row) (get (codes "row") d)
  known ← no_other at (step_fields kind.Select) ms
  Ok (step.Select from row)

unfoldable pub many_in : ℕ → Data → Members → Result Step PlanText
many_in at d ms = do
  from ← of_in at d
  spread ← over_in at d
  items ← items_in (place at field.Items) (get (codes "items") d)
  known ← no_other at (step_fields kind.Many) ms
  Ok (step.Many from spread items)

unfoldable pub shave_in : ℕ → Data → Members → Result Step PlanText
shave_in at d ms = do
  from ← of_in at d
  runs ← runs_in (place at field.Runs) (get (codes "runs") d)
  known ← no_other at (step_fields kind.Shave) ms
  Ok (step.Shave from runs)

unfoldable pub set_in : SetKind → ℕ → Data → Members → Result Step PlanText
set_in which at d ms = do
  left ← left_in at d
  right ← right_in at d
  known ← no_other at (step_fields (kind.Set which)) ms
  Ok (step.Set which left right)

unfoldable pub join_in : ℕ → Data → Members → Result Step PlanText
join_in at d ms = do
  left ← left_in at d
  right ← right_in at d
  left_key ← left_key_in at d
  right_key ← right_key_in at d
  known ← no_other at (step_fields kind.Join) ms
  Ok (step.Join left right left_key right_key)

unfoldable pub group_in : ℕ → Data → Members → Result Step PlanText
group_in at d ms = do
  from ← of_in at d
  key ← key_in at d
  reduce ← reducer_in (place at field.Reduce) (get (codes "reduce") d)
  known ← no_other at (step_fields kind.Group) ms
  Ok (step.Group from key reduce)

abbrev pub fields_in : ℕ → Data → Members → StepKind → Result Step PlanText
fields_in at d ms kind.Source = source_in at d ms
fields_in at d ms kind.Where = where_in at d ms
fields_in at d ms kind.Select = select_in at d ms
fields_in at d ms kind.Many = many_in at d ms
fields_in at d ms kind.Shave = shave_in at d ms
fields_in at d ms (kind.Set which) = set_in which at d ms
fields_in at d ms kind.Join = join_in at d ms
fields_in at d ms kind.Group = group_in at d ms

-- the step at a place of the plan
unfoldable pub step_at : ℕ → Data → Result Step PlanText
step_at at d = do
  ms ← or_shape (place at field.Step) (as_object d)
  k ← or_shape (place at field.Do) (kind_of d)
  fields_in at d ms k

-- the step behind those that were read before
abbrev pub step_in : List Step → Data → Result Step PlanText
step_in read d = step_at (length read) d
