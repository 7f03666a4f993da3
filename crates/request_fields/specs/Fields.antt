-- The fields of a request: what each denotes, or its fault.
use Rattle.std.specs.Prelude.{ℕ, List, length, Bool, false, nat_le, ◌&&◌, codes, if◌then◌else◌, Option, Some, None, option_and_then, ⊤, Result, Ok, Err}
use Rattle.std.specs.List.{list_all}
use Rattle.std.specs.Option.{option_map_or}
use Rattle.std.specs.Str.{bytes_eq}
use Rattle.ratios.specs.Ratio.{Ratio}
use Rattle.frac_core.specs.Text.{weight_of}
use Rattle.frac_core.specs.declared.FracFault.{FracFault}
use Rattle.record_text.specs.Names.{name_of}
use Rattle.record_text.specs.JsonRows.{row_of}
use Rattle.record_text.specs.declared.atom.Atom.{Atom}
use Rattle.record_text.specs.declared.kinds.Kind.{Kind}
use Rattle.record_text.specs.declared.kinds.Kind.TheVariants as kind
use Rattle.record_text.specs.declared.row_json.RowFault.{RowFault}
use Rattle.serde_json.specs.Data.{Data, Members}
use Rattle.serde_json.specs.Find.{get, as_str, as_bool, as_number, as_u64}
use Rattle.io_edge.specs.Path.{is_path}
use Rattle.json_fields.specs.Walk.{◌>>=◌, needed, each}
use Rattle.json_fields.specs.Fields.{list_of, is_text, first_unknown}
use Rattle.messages.specs.declared.thing.Thing.{Thing}
use Rattle.messages.specs.declared.thing.Thing.TheVariants as thing
use Rattle.messages.specs.declared.refusal.Refusal.{Refusal}
use Rattle.messages.specs.declared.refusal.Refusal.TheVariants as refusal

-- the field is missing or is not as it must be; it is no field of a plan
abbrev pub shape_fault : List ℕ → Refusal
shape_fault field = refusal.Shape field None

abbrev pub shape : {A : Type 0} → List ℕ → Result A Refusal
shape field = Err (shape_fault field)

-- the object has no key but these; else the least other key is refused
unfoldable pub no_other : List (List ℕ) → Members → Result ⊤ Refusal
no_other fields ms = option_map_or shape (first_unknown fields ms) (Ok tt)

-- ---- one value

-- a text
unfoldable pub text_in : List ℕ → Data → Result (List ℕ) Refusal
text_in field d = needed (shape_fault field) (option_and_then as_str (get field d))

-- a truth value
unfoldable pub bool_in : List ℕ → Data → Result Bool Refusal
bool_in field d = needed (shape_fault field) (option_and_then as_bool (get field d))

-- a truth value, or false where the field is absent
abbrev flag_of : List ℕ → Option Data → Result Bool Refusal
flag_of field None = Ok false
flag_of field (Some d) = needed (shape_fault field) (as_bool d)

-- a truth value that may be absent, and is then false
unfoldable pub flag_in : List ℕ → Data → Result Bool Refusal
flag_in field d = flag_of field (get field d)

-- the number, where it is from low to high
abbrev within : ℕ → ℕ → ℕ → Option ℕ
within low high n = if nat_le low n && nat_le n high then Some n else None

-- the whole number of a field, if it has one
abbrev number_in : List ℕ → Data → Option ℕ
number_in field d = option_and_then as_u64 (option_and_then as_number (get field d))

-- a whole number from low to high
unfoldable pub whole_in : List ℕ → ℕ → ℕ → Data → Result ℕ Refusal
whole_in field low high d =
    needed (shape_fault field) (option_and_then (within low high) (number_in field d))

-- the name that a text is
unfoldable pub named : List ℕ → List ℕ → Result (List ℕ) Refusal
named field text = needed (refusal.Name field) (name_of text)

-- the path that a text is
unfoldable pub path_of : List ℕ → Result (List ℕ) Refusal
path_of text = if is_path text then Ok text else Err (refusal.Name (codes "path"))

-- which of the fields `plan` and `source` is there, where just one of them is
abbrev one_of : Option Data → Option Data → Result Thing Refusal
one_of None None = shape (codes "plan")
one_of (Some plan) None = Ok thing.Plan
one_of None (Some source) = Ok thing.Source
one_of (Some plan) (Some source) = shape (codes "source")

-- what rows are looked up in, by the field that has its name
unfoldable pub thing_in : Data → Result Thing Refusal
thing_in d = one_of (get (codes "plan") d) (get (codes "source") d)

-- ---- lists

-- the members, where there are low to high of them
abbrev sized : List ℕ → ℕ → ℕ → List Data → Result (List Data) Refusal
sized field low high ds = if nat_le low (length ds) && nat_le (length ds) high then Ok ds else shape field

-- a list of low to high members
unfoldable pub list_in : List ℕ → ℕ → ℕ → Data → Result (List Data) Refusal
list_in field low high d = needed (shape_fault field) (option_and_then list_of (get field d)) >>= sized field low high

-- a fault of a weight's text, told with its place in the list
abbrev pub weight_at : ℕ → Result Ratio FracFault → Result Ratio Refusal
weight_at at (Ok weight) = Ok weight
weight_at at (Err fault) = Err (refusal.Weight at fault)

-- the weight at a place of the list
unfoldable pub weight_in : ℕ → Data → Result Ratio Refusal
weight_in at d = needed (shape_fault (codes "weights")) (as_str d) >>= λ text. weight_at at (weight_of text)

-- the whole list is first tested to be a list of texts, and then the texts are read
abbrev weights_of : Option (List Data) → Result (List Ratio) Refusal
weights_of None = shape (codes "weights")
weights_of (Some ds) = if list_all is_text ds then each weight_in 0 ds else shape (codes "weights")

-- weights, in their order
unfoldable pub weights_in : Data → Result (List Ratio) Refusal
weights_in d = weights_of (option_and_then list_of (get (codes "weights") d))

-- the kind of this name
abbrev kind_named : List ℕ → Option Kind
kind_named text =
    if bytes_eq text (codes "int") then Some kind.Int
    else if bytes_eq text (codes "text") then Some kind.Text
    else None

-- the kind that a member of the list names
unfoldable pub kind_in : Data → Result Kind Refusal
kind_in d = needed (shape_fault (codes "kinds")) (option_and_then kind_named (as_str d))

-- as many kinds as a row may have columns
unfoldable pub kinds_in : Data → Result (List Kind) Refusal
kinds_in d = list_in (codes "kinds") 1 16 d >>= each (λ at. kind_in) 0

-- each fault of a row is told as one of shape
abbrev row_or_shape : Result (List Atom) RowFault → Result (List Atom) Refusal
row_or_shape (Ok row) = Ok row
row_or_shape (Err fault) = shape (codes "rows")

-- the row that a member of the list is
unfoldable pub row_in : Data → Result (List Atom) Refusal
row_in d = row_or_shape (row_of d)

-- the most rows that a request may ask for
abbrev pub max_rows : ℕ
max_rows = 1024

-- 1 row or more, up to so many
unfoldable pub rows_in : Data → Result (List (List Atom)) Refusal
rows_in d = list_in (codes "rows") 1 max_rows d >>= each (λ at. row_in) 0
