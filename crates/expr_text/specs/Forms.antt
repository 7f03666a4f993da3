-- The form of one node of an expression.
use Rattle.std.specs.Prelude.{ℕ, List, [], ◌∷◌, length, nat_le, codes, if◌then◌else◌, Option, Some, None, option_map, option_and_then}
use Rattle.serde_json.specs.Data.{Data, Members}
use Rattle.serde_json.specs.Find.{get, as_str, as_object, as_number, as_u64, as_i64}
use Rattle.serde_json.specs.View.{view}
use Rattle.json_fields.specs.Fields.{list_of}
use Rattle.record_text.specs.declared.atom.Atom.{Atom}
use Rattle.record_text.specs.declared.atom.Atom.TheVariants.{Int, Text}
use Rattle.plan_model.specs.Sizes.{max_column}
use Rattle.prim_table.specs.Tables.{found}
use Rattle.prim_table.specs.declared.tables.PrimId.{PrimId}
use Rattle.prim_table.specs.declared.tables.PrimId.TheVariants as prim
use Rattle.expr_text.specs.Fields.{has_only}
use Rattle.expr_text.specs.declared.form.Form.{Form}
use Rattle.expr_text.specs.declared.form.Form.TheVariants as form

-- a column, a constant, or a primitive at a place of its table, with the values that are its arguments
pub data Node : Type 0 where
  col_node : ℕ → Node
  const_node : Atom → Node
  one_node : ℕ → Data → Node
  two_node : ℕ → Data → Data → Node
  three_node : ℕ → Data → Data → Data → Node

-- ---- the fields of each form

-- the column of this number, 0 to 255
abbrev pub column_node : ℕ → Option Node
column_node c = if nat_le c max_column then Some (col_node c) else None

-- the constant of this text, of at most 255 bytes
abbrev pub text_node : List ℕ → Option Node
text_node text = if nat_le (length text) 255 then Some (const_node (Text text)) else None

-- the primitive, with as many arguments as it takes
abbrev pub applied : PrimId → List Data → Option Node
applied (prim.One at) (a ∷ []) = Some (one_node at a)
applied (prim.Two at) (a ∷ b ∷ []) = Some (two_node at a b)
applied (prim.Three at) (a ∷ b ∷ c ∷ []) = Some (three_node at a b c)
applied p args = None

-- `{"col":c}`
abbrev pub column_of : Data → Option Node
column_of d = option_and_then column_node (option_and_then as_u64 (option_and_then as_number (get (codes "col") d)))

-- `{"int":i}`
abbrev pub number_of : Data → Option Node
number_of d = option_map (λ i. const_node (Int i)) (option_and_then as_i64 (option_and_then as_number (get (codes "int") d)))

-- `{"text":t}`
abbrev pub text_of : Data → Option Node
text_of d = option_and_then text_node (option_and_then as_str (get (codes "text") d))

-- the name in a call
abbrev pub name_in : Data → Option (List ℕ)
name_in d = option_and_then as_str (get (codes "call") d)

-- the primitive that a call names
unfoldable pub primitive_of : Data → Option PrimId
primitive_of d = option_and_then found (name_in d)

-- the arguments of a call
unfoldable pub args_of : Data → Option (List Data)
args_of d = option_and_then list_of (get (codes "args") d)

-- `{"call":name,"args":[..]}`
abbrev pub call_of : Data → Option Node
call_of d = option_and_then (λ p. option_and_then (applied p) (args_of d)) (primitive_of d)

-- ---- an object

-- the form whose fields an object has, and no others
abbrev pub form_in : Data → Members → Option Node
form_in d ms =
    if has_only (codes "col" ∷ []) ms then column_of d
    else if has_only (codes "int" ∷ []) ms then number_of d
    else if has_only (codes "text" ∷ []) ms then text_of d
    else if has_only (codes "call" ∷ codes "args" ∷ []) ms then call_of d
    else None

-- the node that a value is
unfoldable pub form_of : Data → Option Node
form_of d = option_and_then (form_in d) (as_object d)

-- a form that was read, with the values that its references lend
abbrev pub form_view : Form → Node
form_view (form.Col c) = col_node c
form_view (form.Int i) = const_node (Int i)
form_view (form.Text t) = const_node (Text t.now)
form_view (form.One at a) = one_node at (view a.now)
form_view (form.Two at a b) = two_node at (view a.now) (view b.now)
form_view (form.Three at a b c) = three_node at (view a.now) (view b.now) (view c.now)
