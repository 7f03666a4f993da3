-- The operations that requests ask for.
use Rattle.std.specs.Prelude.{ℕ, List, [], ◌∷◌, codes, if◌then◌else◌, Option, Some, None, option_and_then}
use Rattle.std.specs.Str.{bytes_eq}
use Rattle.serde_json.specs.Data.{Data}
use Rattle.serde_json.specs.Find.{get, as_str}
use Rattle.request_text.specs.declared.op.Op.{Op}
use Rattle.request_text.specs.declared.op.Op.TheVariants as op

-- the operation of this name
abbrev pub op_named : List ℕ → Option Op
op_named name =
    if bytes_eq name (codes "sum") then Some op.Sum
    else if bytes_eq name (codes "source") then Some op.Source
    else if bytes_eq name (codes "update") then Some op.Update
    else if bytes_eq name (codes "load") then Some op.Load
    else if bytes_eq name (codes "plan") then Some op.Plan
    else if bytes_eq name (codes "drop") then Some op.Drop
    else if bytes_eq name (codes "measure") then Some op.Measure
    else if bytes_eq name (codes "exact") then Some op.Exact
    else if bytes_eq name (codes "budget") then Some op.Budget
    else None

-- the operation that the field `op` names
unfoldable pub op_of : Data → Option Op
op_of d = option_and_then op_named (option_and_then as_str (get (codes "op") d))

-- the fields that an operation has
unfoldable pub op_fields : Op → List (List ℕ)
op_fields op.Sum = codes "op" ∷ codes "weights" ∷ []
op_fields op.Source = codes "op" ∷ codes "name" ∷ codes "kinds" ∷ codes "signed" ∷ codes "budget" ∷ []
op_fields op.Update = codes "op" ∷ codes "source" ∷ codes "csv" ∷ codes "header" ∷ []
op_fields op.Load = codes "op" ∷ codes "source" ∷ codes "path" ∷ codes "header" ∷ []
op_fields op.Plan = codes "op" ∷ codes "name" ∷ codes "plan" ∷ []
op_fields op.Drop = codes "op" ∷ codes "plan" ∷ []
op_fields op.Measure = codes "op" ∷ codes "plan" ∷ codes "rows" ∷ codes "epsilon" ∷ []
op_fields op.Exact = codes "op" ∷ codes "plan" ∷ codes "source" ∷ codes "rows" ∷ []
op_fields op.Budget = codes "op" ∷ codes "source" ∷ []
