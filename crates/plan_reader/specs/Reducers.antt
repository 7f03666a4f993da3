-- The reducer that a value denotes, or the first fault of its walk. All faults name one field of the step.
use Rattle.std.specs.Prelude.{ℕ, List, [], ◌∷◌, nat_le, codes, if◌then◌else◌, Option, Some, None, option_and_then, Result, Ok}
use Rattle.std.specs.Str.{bytes_eq}
use Rattle.serde_json.specs.Data.{Data}
use Rattle.serde_json.specs.Find.{get, as_object, as_str}
use Rattle.json_fields.specs.Walk.{◌>>=◌}
use Rattle.plan_model.specs.declared.step.Reducer.{Reducer}
use Rattle.plan_model.specs.declared.step.Reducer.TheVariants as reducer
use Rattle.plan_model.specs.Sizes.{max_column}
use Rattle.expr_text.specs.declared.fault.Place.{Place}
use Rattle.expr_text.specs.declared.fault.PlanText.{PlanText}
use Rattle.expr_text.specs.Fields.{or_shape}
use Rattle.plan_reader.specs.declared.reducers.ReducerKind.{ReducerKind}
use Rattle.plan_reader.specs.declared.reducers.ReducerKind.TheVariants as kind
use Rattle.plan_reader.specs.Fields.{only, whole_of}

-- what the text of the field `fn` asks for
unfoldable pub kind_named : List ℕ → Option ReducerKind
kind_named text =
    if bytes_eq text (codes "count") then Some kind.Count
    else if bytes_eq text (codes "min") then Some kind.Min
    else if bytes_eq text (codes "max") then Some kind.Max
    else if bytes_eq text (codes "sum") then Some kind.Sum
    else None

abbrev pub kind_of : Data → Option ReducerKind
kind_of d = option_and_then kind_named (option_and_then as_str (get (codes "fn") d))

-- the fields of a reducer
abbrev pub reducer_fields : ReducerKind → List (List ℕ)
reducer_fields kind.Count = codes "fn" ∷ []
reducer_fields _ = codes "fn" ∷ codes "col" ∷ []

-- a column, 0 to 255
abbrev pub column : ℕ → Option ℕ
column c = if nat_le c max_column then Some c else None

abbrev pub column_in : Place → Data → Result ℕ PlanText
column_in p d = or_shape p (option_and_then column (whole_of (codes "col") d))

-- the reducer of a kind: but for a count it has a column
abbrev pub reducer_of : Place → Data → ReducerKind → Result Reducer PlanText
reducer_of p d kind.Count = Ok reducer.Count
reducer_of p d kind.Min = do
  c ← column_in p d
  Ok (reducer.Min c)
reducer_of p d kind.Max = do
  c ← column_in p d
  Ok (reducer.Max c)
reducer_of p d kind.Sum = do
  c ← column_in p d
  Ok (reducer.Sum c)

-- a reducer: its fields in their order, and then a field that it doesn't have
unfoldable pub reducer_in : Place → Option Data → Result Reducer PlanText
reducer_in p found = do
  d ← or_shape p found
  ms ← or_shape p (as_object d)
  f ← or_shape p (kind_of d)
  reduce ← reducer_of p d f
  known ← only p (reducer_fields f) ms
  Ok reduce
