-- The row that a JSON value denotes, and the value that a row is written as.
use Rattle.std.specs.Prelude.{◌≡◌, ℕ, Bool, ◌&&◌, nat_lt, nat_le, if◌then◌else◌, ℤ, List, length, map, Option, Some, None, option_and_then, ⊤, Result, Ok, Err}
use Rattle.json_fields.specs.Fields.{list_of}
use Rattle.json_fields.specs.Walk.{◌>>=◌, needed, each}
use Rattle.serde_json.specs.Data.{Data, number, string, array}
use Rattle.serde_json.specs.Find.{as_number, as_i64, as_str, of_integer}
use Rattle.serde_json.specs.View.{items_of}
use Rattle.record_text.specs.declared.atom.Atom.{Atom}
use Rattle.record_text.specs.declared.atom.Atom.TheVariants.{Int, Text}
use Rattle.record_text.specs.declared.row_json.RowFault.{RowFault}
use Rattle.record_text.specs.declared.row_json.RowFault.TheVariants as fault

-- ---- reading

-- a text of at most 255 bytes
abbrev pub text_in : ℕ → List ℕ → Result Atom RowFault
text_in at text = if nat_le (length text) 255 then Ok (Text text) else Err (fault.TextLong at)

-- the number of a value, where it is a whole number that an i64 holds
abbrev pub int_of : Data → Option ℤ
int_of d = option_and_then as_i64 (as_number d)

-- the atom at a place of the row, of the number or the text that the value is
abbrev pub atom_from : ℕ → Option ℤ → Option (List ℕ) → Result Atom RowFault
atom_from at (Some z) text = Ok (Int z)
atom_from at None (Some text) = text_in at text
atom_from at None None = Err (fault.Atom at)

-- the atom of a value at a place of the row
abbrev pub atom_in : ℕ → Data → Result Atom RowFault
atom_in at d = atom_from at (int_of d) (as_str d)

-- 1 to 16
abbrev pub is_width : ℕ → Bool
is_width n = nat_lt 0 n && nat_le n 16

-- the atoms of a list, read in order if there are as many as a row may have
abbrev pub atoms_of : List Data → Result (List Atom) RowFault
atoms_of ds = if is_width (length ds) then each atom_in 0 ds else Err fault.Width

-- the row of a value, or its first fault
unfoldable pub row_of : Data → Result (List Atom) RowFault
row_of d = needed fault.NotList (list_of d) >>= atoms_of

-- ---- writing

-- an Int as a number, a Text as a text
abbrev pub atom_data : Atom → Data
atom_data (Int z) = number (of_integer z)
atom_data (Text text) = string text

-- the array of the atoms
abbrev pub row_data : List Atom → Data
row_data row = array (items_of (map atom_data row))

-- ---- what a reader returns, beside what the value denotes

-- want of memory may come at any place, and else the fault is the one that is denoted
abbrev pub FailsRow : {A : Type 0} → RowFault → Result A RowFault → Type 0
FailsRow fault.Memory denoted = ⊤
FailsRow fault.NotList denoted = denoted ≡ Err fault.NotList
FailsRow fault.Width denoted = denoted ≡ Err fault.Width
FailsRow (fault.Atom at) denoted = denoted ≡ Err (fault.Atom at)
FailsRow (fault.TextLong at) denoted = denoted ≡ Err (fault.TextLong at)

-- what was returned is what is denoted, unless there was no memory
abbrev pub GivesRow : {A : Type 0} → Result A RowFault → Result A RowFault → Type 0
GivesRow (Ok x) denoted = denoted ≡ Ok x
GivesRow (Err e) denoted = FailsRow e denoted
