-- A text that is a node is short, and a primitive that is a node has a place in its table.
use Rattle.std.proofs.Common.{◌≡◌, ℕ, ℤ, ◌<◌, ◌≤◌, Bool, codes, List, [], ◌∷◌, length, true, false, is_some, nat_le, nat_eq, if◌then◌else◌, Option, Some, None, option_map, option_and_then, refl, subst}
use Rattle.std.specs.Prelude.{slice_get}
use Rattle.std.specs.Cmp.Lexicographic.{pointwise}
use Rattle.std.specs.Option.{option_or}
use Rattle.std.proofs.lemmas.Bool.{leb-true}
use Rattle.std.proofs.lemmas.List.Quantifiers.{position-Some}
use Rattle.std.proofs.lemmas.Option.{option_and_then_some, slice_get-get_or}
use Rattle.serde_json.specs.Data.{Data, Members}
use Rattle.serde_json.specs.Find.{get, as_object, as_str, as_number, as_u64, as_i64}
use Rattle.record_text.specs.declared.atom.Atom.TheVariants.{Int, Text}
use Rattle.prim_table.specs.Primitives.{Primitive, of_int, unary, binary, ternary}
use Rattle.prim_table.specs.Tables.{found, index_of, names1, names2, names3, args1, args2, args3, args_at}
use Rattle.prim_table.specs.declared.tables.PrimId.{PrimId}
use Rattle.prim_table.specs.declared.tables.PrimId.TheVariants as prim
use Rattle.expr_text.specs.Fields.{has_only}
use Rattle.expr_text.specs.Forms.{Node, col_node, const_node, one_node, two_node, three_node, column_node, text_node, applied, column_of, number_of, text_of, primitive_of, args_of, call_of, form_in, form_of}
use Rattle.plan_model.specs.Sizes.{max_column}

-- ---- primitives that are found

-- the primitive has a place in the table of its number of arguments
abbrev IsPlaced : PrimId → Type 0
IsPlaced (prim.One at) = is_some (args1 at) ≡ true
IsPlaced (prim.Two at) = is_some (args2 at) ≡ true
IsPlaced (prim.Three at) = is_some (args3 at) ≡ true

is_some-within : {X Y : Type 0} (f : X → Y) (xs : List X) (at : ℕ) (d : X) → at < length xs →
    is_some (option_map f (slice_get xs at)) ≡ true
is_some-within f xs at d h = rw (slice_get-get_or xs at d h) refl

-- a primitive of a table has arguments
has_args : (table : List Primitive) (at : ℕ) → at < length table → is_some (args_at table at) ≡ true
has_args table at h = is_some-within (λ p. p.args) table at (of_int [] (λ x. x)) h

index-below : (names : List (List ℕ)) (name : List ℕ) (at : ℕ) → index_of names name ≡ Some at → at < length names
index-below names name at is = (position-Some (λ other. pointwise nat_eq other name) names at [] is).0

-- what is found in the first table that has it is placed where each place in a table is
placed-first : (a b c : Option ℕ) (p : PrimId) → ((at : ℕ) → a ≡ Some at → IsPlaced (prim.One at)) →
    ((at : ℕ) → b ≡ Some at → IsPlaced (prim.Two at)) → ((at : ℕ) → c ≡ Some at → IsPlaced (prim.Three at)) →
    option_or (option_map prim.One a) (option_or (option_map prim.Two b) (option_map prim.Three c)) ≡ Some p → IsPlaced p
placed-first (Some at) b c p one two three e = let same : prim.One at ≡ p = cc in subst IsPlaced same (one at refl)
placed-first None (Some at) c p one two three e = let same : prim.Two at ≡ p = cc in subst IsPlaced same (two at refl)
placed-first None None (Some at) p one two three e = let same : prim.Three at ≡ p = cc in subst IsPlaced same (three at refl)
placed-first None None None p one two three e = cc

placed-found : (name : List ℕ) (p : PrimId) → found name ≡ Some p → IsPlaced p
placed-found name p is =
    placed-first (index_of names1 name) (index_of names2 name) (index_of names3 name) p
    (λ at found_at. has_args unary at (index-below names1 name at found_at))
    (λ at found_at. has_args binary at (index-below names2 name at found_at))
    (λ at found_at. has_args ternary at (index-below names3 name at found_at)) is

-- ---- nodes

-- a text has at most 255 bytes, and a primitive a place in its table
abbrev pub IsSound : Option Node → Type 0
IsSound (Some (const_node (Text text))) = length text ≤ 255
IsSound (Some (one_node at a)) = is_some (args1 at) ≡ true
IsSound (Some (two_node at a b)) = is_some (args2 at) ≡ true
IsSound (Some (three_node at a b c)) = is_some (args3 at) ≡ true
IsSound _ = Unit {0}

-- what comes of an option is sound where all that may come of it is
sound_of : {A : Type 0} (f : A → Option Node) (o : Option A) → ((x : A) → o ≡ Some x → IsSound (f x)) → IsSound (option_and_then f o)
sound_of f None h = tt
sound_of f (Some x) h = h x refl

sound-number : (o : Option ℤ) → IsSound (option_map (λ i. const_node (Int i)) o)
sound-number None = tt
sound-number (Some i) = tt

sound-column : (c : ℕ) → IsSound (column_node c)
sound-column c = elim (nat_le c max_column) as (λ b. IsSound (if b then Some (col_node c) else None)) [ true ↦ tt | false ↦ tt ]

sound-text : (text : List ℕ) → IsSound (text_node text)
sound-text text =
    elim (nat_le (length text) 255) as (λ b. nat_le (length text) 255 ≡ b → IsSound (if b then Some (const_node (Text text)) else None))
    [ true ↦ λ is. leb-true (length text) 255 is | false ↦ λ is. tt ] refl

sound-applied : (p : PrimId) (args : List Data) → IsPlaced p → IsSound (applied p args)
sound-applied (prim.One at) [] h = tt
sound-applied (prim.One at) (a ∷ []) h = h
sound-applied (prim.One at) (a ∷ b ∷ rest) h = tt
sound-applied (prim.Two at) [] h = tt
sound-applied (prim.Two at) (a ∷ []) h = tt
sound-applied (prim.Two at) (a ∷ b ∷ []) h = h
sound-applied (prim.Two at) (a ∷ b ∷ c ∷ rest) h = tt
sound-applied (prim.Three at) [] h = tt
sound-applied (prim.Three at) (a ∷ []) h = tt
sound-applied (prim.Three at) (a ∷ b ∷ []) h = tt
sound-applied (prim.Three at) (a ∷ b ∷ c ∷ []) h = h
sound-applied (prim.Three at) (a ∷ b ∷ c ∷ e ∷ rest) h = tt

-- ---- values

sound-column_of : (d : Data) → IsSound (column_of d)
sound-column_of d = sound_of column_node (option_and_then as_u64 (option_and_then as_number (get (codes "col") d))) (λ c is. sound-column c)

sound-number_of : (d : Data) → IsSound (number_of d)
sound-number_of d = sound-number (option_and_then as_i64 (option_and_then as_number (get (codes "int") d)))

sound-text_of : (d : Data) → IsSound (text_of d)
sound-text_of d = sound_of text_node (option_and_then as_str (get (codes "text") d)) (λ text is. sound-text text)

placed-primitive_of : (d : Data) (p : PrimId) → primitive_of d ≡ Some p → IsPlaced p
unfolding primitive_of
placed-primitive_of d p is =
    option_and_then_some found (option_and_then as_str (get (codes "call") d)) p is (λ text _ one. placed-found text p one)

sound-call_of : (d : Data) → IsSound (call_of d)
sound-call_of d =
    sound_of (λ p. option_and_then (applied p) (args_of d)) (primitive_of d)
    (λ p is. sound_of (applied p) (args_of d) (λ xs _. sound-applied p xs (placed-primitive_of d p is)))

-- each of five cases is sound
sound-chosen : (a b c d : Bool) (v w x y : Option Node) → IsSound v → IsSound w → IsSound x → IsSound y →
    IsSound (if a then v else if b then w else if c then x else if d then y else None)
sound-chosen true b c d v w x y hv hw hx hy = hv
sound-chosen false true c d v w x y hv hw hx hy = hw
sound-chosen false false true d v w x y hv hw hx hy = hx
sound-chosen false false false true v w x y hv hw hx hy = hy
sound-chosen false false false false v w x y hv hw hx hy = tt

sound-form_in : (d : Data) (ms : Members) → IsSound (form_in d ms)
sound-form_in d ms =
    sound-chosen (has_only (codes "col" ∷ []) ms) (has_only (codes "int" ∷ []) ms) (has_only (codes "text" ∷ []) ms)
    (has_only (codes "call" ∷ codes "args" ∷ []) ms) _ _ _ _ (sound-column_of d) (sound-number_of d) (sound-text_of d) (sound-call_of d)

pub sound-form_of : (d : Data) → IsSound (form_of d)
unfolding form_of
sound-form_of d = sound_of (form_in d) (as_object d) (λ ms is. sound-form_in d ms)

pub text_is_short : (d : Data) (text : List ℕ) → form_of d ≡ Some (const_node (Text text)) → length text ≤ 255
text_is_short d text is = subst IsSound is (sound-form_of d)
