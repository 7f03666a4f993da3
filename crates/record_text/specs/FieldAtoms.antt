-- The atom that a field of a record denotes.
use Rattle.std.specs.Prelude.{◌≡◌, ℕ, ◌^◌, Bool, ◌&&◌, nat_lt, nat_le, if◌then◌else◌, ℤ, pos, negsuc, List, length, Option, Some, None, option_map, ⊤, Result, Ok, Err}
use Rattle.std.specs.Str.{is_utf8}
use Rattle.std.specs.Str.Parse.{signed_digits_value, without_leading_sign}
use Rattle.json_fields.specs.Walk.{needed}
use Rattle.numerals.specs.Numerals.{is_short_numeral}
use Rattle.record_text.specs.declared.atom.Atom.{Atom}
use Rattle.record_text.specs.declared.atom.Atom.TheVariants.{Int, Text}
use Rattle.record_text.specs.declared.field.AtomFault.{AtomFault}
use Rattle.record_text.specs.declared.field.AtomFault.TheVariants as fault
use Rattle.record_text.specs.declared.kinds.Kind.{Kind}
use Rattle.record_text.specs.declared.kinds.Kind.TheVariants as kind

-- a number that an i64 holds; `negsuc n` is -(n + 1)
abbrev pub is_i64 : ℤ → Bool
is_i64 (pos n) = nat_lt n (2 ^ 63)
is_i64 (negsuc n) = nat_lt n (2 ^ 63)

-- an optional `+` or `-` and 1 to 19 digits, whose value an i64 holds
abbrev pub is_int_field : List ℕ → Bool
is_int_field field = is_short_numeral (without_leading_sign field) && is_i64 (signed_digits_value 10 field)

-- the value of such a field
abbrev pub int_of_field : List ℕ → Option ℤ
int_of_field field = if is_int_field field then Some (signed_digits_value 10 field) else None

-- UTF-8 of at most 255 bytes
abbrev pub text_of_field : List ℕ → Result Atom AtomFault
text_of_field field = if is_utf8 field then (if nat_le (length field) 255 then Ok (Text field) else Err fault.TextLong) else Err fault.NotUtf8

-- the atom of a field that is to be of this kind, or why it is none
unfoldable pub atom_of_field : List ℕ → Kind → Result Atom AtomFault
atom_of_field field kind.Int = needed fault.NotInt (option_map Int (int_of_field field))
atom_of_field field kind.Text = text_of_field field

-- want of memory may come at any place, and else the fault is the one that is denoted
abbrev pub FailsAtom : AtomFault → Result Atom AtomFault → Type 0
FailsAtom fault.Memory denoted = ⊤
FailsAtom fault.NotInt denoted = denoted ≡ Err fault.NotInt
FailsAtom fault.NotUtf8 denoted = denoted ≡ Err fault.NotUtf8
FailsAtom fault.TextLong denoted = denoted ≡ Err fault.TextLong

-- what was returned is what is denoted, unless there was no memory
abbrev pub GivesAtom : Result Atom AtomFault → Result Atom AtomFault → Type 0
GivesAtom (Ok atom) denoted = denoted ≡ Ok atom
GivesAtom (Err e) denoted = FailsAtom e denoted
