-- What a primitive is, and the tables of the primitives.
use Rattle.std.specs.Prelude.{ℕ, Bool, ◌&&◌, ◌||◌, not, nat_eq, if◌then◌else◌, ℤ, pos, negsuc, ◌+ℤ◌, ◌-ℤ◌, ◌*ℤ◌, neg_ℤ, unsigned_abs, int_lt, int_le, codes, List, [], ◌∷◌, length, take, drop, Option, Some, None, option_and_then}
use Rattle.std.specs.Int.{w64, saturate_signed, int_signum, int_min, int_max, int_div_euclid, int_rem_euclid}
use Rattle.std.specs.List.{starts_with}
use Rattle.std.specs.Option.{unwrap_or}
use Rattle.std.specs.Ordering.{int_eq, is_lt}
use Rattle.std.specs.Str.{chars, encode_utf8_all}
use Rattle.record_text.specs.declared.atom.Atom.{Atom}
use Rattle.record_text.specs.declared.atom.Atom.TheVariants as atom
use Rattle.record_text.specs.declared.kinds.Kind.{Kind}
use Rattle.record_text.specs.declared.kinds.Kind.TheVariants.{Int, Text}
use Rattle.record_text.specs.FieldAtoms.{int_of_field}
use Rattle.record_text.specs.Order.{text_cmp, text_eq}

-- ---- numbers

-- the nearest number that an i64 holds
abbrev pub clamped : ℤ → ℤ
clamped z = saturate_signed w64 z

-- 1 for truth, 0 for falsity
abbrev pub truth : Bool → ℤ
truth b = if b then pos 1 else pos 0

-- any number but 0 counts as true
abbrev pub is_true : ℤ → Bool
is_true a = not (int_eq a (pos 0))

-- the quotient whose remainder is not negative; 0 where the divisor is 0
abbrev pub quotient : ℤ → ℤ → ℤ
quotient a b = if is_true b then clamped (int_div_euclid a b) else pos 0

-- that remainder, from 0 up to below the divisor's size; 0 where the divisor is 0
abbrev pub remainder : ℤ → ℤ → ℤ
remainder a b = if is_true b then int_rem_euclid a b else pos 0

-- ---- texts

-- the number that the text is as a field of a CSV record; 0 where it is none
abbrev pub number_of : List ℕ → ℤ
number_of text = unwrap_or (int_of_field text) (pos 0)

-- how many characters a number asks for; none where it is negative
abbrev pub count_of : ℤ → ℕ
count_of (pos n) = n
count_of (negsuc n) = 0

-- the characters of a text after the first ones, and of those as many as are kept
abbrev pub text_part : List ℕ → ℤ → ℤ → List ℕ
text_part text left_out kept = encode_utf8_all (take (count_of kept) (drop (count_of left_out) (chars text)))

-- ---- primitives

-- what an atom of a kind holds
abbrev pub Held : Kind → Type 0
Held Int = ℤ
Held Text = List ℕ

-- the atom of a kind that holds this
abbrev pub atom_of : (k : Kind) → Held k → Atom
atom_of Int a = atom.Int a
atom_of Text a = atom.Text a

-- what the atom holds, where it has the kind
abbrev pub held_in : (k : Kind) → Atom → Option (Held k)
held_in Int (atom.Int a) = Some a
held_in Int (atom.Text a) = None
held_in Text (atom.Int a) = None
held_in Text (atom.Text a) = Some a

-- the functions of arguments of these kinds with a result of this kind
abbrev pub Functions : List Kind → Kind → Type 0
Functions [] result = Held result
Functions (k ∷ args) result = Held k → Functions args result

-- a primitive: its name, the kinds of its arguments, the kind of its result, and its function
pub record Primitive : Type 0 where
  pub name : List ℕ
  pub args : List Kind
  pub result : Kind
  pub function : Functions args result

-- what a function gives at atoms; none where they aren't as many as its arguments, or have other kinds
abbrev pub given : (args : List Kind) (result : Kind) → Functions args result → List Atom → Option Atom
given [] result f [] = Some (atom_of result f)
given [] result f (a ∷ atoms) = None
given (k ∷ args) result f [] = None
given (k ∷ args) result f (a ∷ atoms) = option_and_then (λ x. given args result (f x) atoms) (held_in k a)

-- what a primitive answers at atoms
abbrev pub answer : Primitive → List Atom → Option Atom
answer p atoms = given p.args p.result p.function atoms

-- ---- the tables

-- a primitive of one Int, of two Ints, and of one Text or two with an Int as its result
abbrev pub of_int : List ℕ → (ℤ → ℤ) → Primitive
of_int name f = record { name = name; args = Int ∷ []; result = Int; function = f }

abbrev pub of_ints : List ℕ → (ℤ → ℤ → ℤ) → Primitive
of_ints name f = record { name = name; args = Int ∷ Int ∷ []; result = Int; function = f }

abbrev pub of_text : List ℕ → (List ℕ → ℤ) → Primitive
of_text name f = record { name = name; args = Text ∷ []; result = Int; function = f }

abbrev pub of_texts : List ℕ → (List ℕ → List ℕ → ℤ) → Primitive
of_texts name f = record { name = name; args = Text ∷ Text ∷ []; result = Int; function = f }

-- the primitives of one argument
abbrev pub unary : List Primitive
unary = of_int (codes "neg") (λ a. clamped (neg_ℤ a))
    ∷ of_int (codes "abs") (λ a. clamped (pos (unsigned_abs a)))
    ∷ of_int (codes "sign") int_signum
    ∷ of_int (codes "not") (λ a. truth (not (is_true a)))
    ∷ of_text (codes "len") (λ a. pos (length a))
    ∷ of_text (codes "int_of") number_of
    ∷ []

-- those of two
abbrev pub binary : List Primitive
binary = of_ints (codes "add") (λ a b. clamped (a +ℤ b))
    ∷ of_ints (codes "sub") (λ a b. clamped (a -ℤ b))
    ∷ of_ints (codes "mul") (λ a b. clamped (a *ℤ b))
    ∷ of_ints (codes "div") quotient
    ∷ of_ints (codes "mod") remainder
    ∷ of_ints (codes "min") int_min
    ∷ of_ints (codes "max") int_max
    ∷ of_ints (codes "eq") (λ a b. truth (int_eq a b))
    ∷ of_ints (codes "ne") (λ a b. truth (not (int_eq a b)))
    ∷ of_ints (codes "lt") (λ a b. truth (int_lt a b))
    ∷ of_ints (codes "le") (λ a b. truth (int_le a b))
    ∷ of_ints (codes "gt") (λ a b. truth (int_lt b a))
    ∷ of_ints (codes "ge") (λ a b. truth (int_le b a))
    ∷ of_ints (codes "and") (λ a b. truth (is_true a && is_true b))
    ∷ of_ints (codes "or") (λ a b. truth (is_true a || is_true b))
    ∷ of_texts (codes "text_eq") (λ a b. truth (text_eq a b))
    ∷ of_texts (codes "text_lt") (λ a b. truth (is_lt (text_cmp a b)))
    ∷ of_texts (codes "starts") (λ a b. truth (starts_with nat_eq a b))
    ∷ []

-- those of three
abbrev pub ternary : List Primitive
ternary = record { name = codes "pick"; args = Int ∷ Int ∷ Int ∷ []; result = Int; function = λ a b c. if is_true a then b else c }
    ∷ record { name = codes "part"; args = Text ∷ Int ∷ Int ∷ []; result = Text; function = text_part }
    ∷ []
