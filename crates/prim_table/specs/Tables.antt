-- The primitives by their codes, which are their places in the tables, and by their names.
use Rattle.std.specs.Prelude.{ℕ, List, [], ◌∷◌, map, slice_get, Option, option_and_then, option_map, nat_eq}
use Rattle.std.specs.Cmp.Lexicographic.{pointwise}
use Rattle.std.specs.List.{position}
use Rattle.std.specs.Option.{option_or}
use Rattle.record_text.specs.declared.atom.Atom.{Atom}
use Rattle.record_text.specs.declared.kinds.Kind.{Kind}
use Rattle.prim_table.specs.declared.tables.PrimId.{PrimId}
use Rattle.prim_table.specs.declared.tables.PrimId.TheVariants.{One, Two, Three}
use Rattle.prim_table.specs.Primitives.{Primitive, answer, unary, binary, ternary}

-- ---- names

-- the names of primitives
abbrev pub names : List Primitive → List (List ℕ)
names table = map (λ p. p.name) table

abbrev pub names1 : List (List ℕ)
names1 = names unary

abbrev pub names2 : List (List ℕ)
names2 = names binary

abbrev pub names3 : List (List ℕ)
names3 = names ternary

-- where a name stands in a list of names
abbrev pub index_of : List (List ℕ) → List ℕ → Option ℕ
index_of names name = position (λ other. pointwise nat_eq other name) names

-- the primitive of a name, if a table has the name
abbrev pub found : List ℕ → Option PrimId
found name = option_or (option_map One (index_of names1 name))
    (option_or (option_map Two (index_of names2 name)) (option_map Three (index_of names3 name)))

-- ---- kinds

-- the kinds of the arguments of the primitive at a code, if the table has the code
abbrev pub args_at : List Primitive → ℕ → Option (List Kind)
args_at table at = option_map (λ p. p.args) (slice_get table at)

abbrev pub args1 : ℕ → Option (List Kind)
args1 at = args_at unary at

abbrev pub args2 : ℕ → Option (List Kind)
args2 at = args_at binary at

abbrev pub args3 : ℕ → Option (List Kind)
args3 at = args_at ternary at

-- the kind of the result
abbrev pub result_at : List Primitive → ℕ → Option Kind
result_at table at = option_map (λ p. p.result) (slice_get table at)

abbrev pub result1 : ℕ → Option Kind
result1 at = result_at unary at

abbrev pub result2 : ℕ → Option Kind
result2 at = result_at binary at

abbrev pub result3 : ℕ → Option Kind
result3 at = result_at ternary at

-- ---- answers

-- what the primitive at a code answers at atoms; none past the table's end, and none at atoms of other kinds
abbrev pub answer_at : List Primitive → ℕ → List Atom → Option Atom
answer_at table at atoms = option_and_then (λ p. answer p atoms) (slice_get table at)

abbrev pub prim1 : ℕ → Atom → Option Atom
prim1 at a = answer_at unary at (a ∷ [])

abbrev pub prim2 : ℕ → Atom → Atom → Option Atom
prim2 at a b = answer_at binary at (a ∷ b ∷ [])

abbrev pub prim3 : ℕ → Atom → Atom → Atom → Option Atom
prim3 at a b c = answer_at ternary at (a ∷ b ∷ c ∷ [])
