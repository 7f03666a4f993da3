-- Numbers on lines.
use Rattle.std.specs.Prelude.{ℕ, ℤ, List, Option, None, Some, Result, Ok, Err}
use Rattle.line_runs.specs.Lines.{without_cr}
use Rattle.record_text.specs.FieldAtoms.{int_of_field}
use Rattle.record_text.specs.declared.atom.Atom.{Atom}
use Rattle.record_text.specs.declared.atom.Atom.TheVariants.{Int, Text}
use Rattle.record_text.specs.declared.field.AtomFault.{AtomFault}

-- the number on a line without its LF: one CR at its end is dropped, and an optional sign and 1 to 19 digits are left,
-- whose value an i64 holds
abbrev pub number_of : List ℕ → Option ℤ
number_of line = int_of_field (without_cr line)

-- the number of an atom that was read, if it is one
abbrev pub number_in : Result Atom AtomFault → Option ℤ
number_in (Ok (Int number)) = Some number
number_in (Ok (Text text)) = None
number_in (Err fault) = None

-- how many bytes of a line are kept: enough to tell its number
abbrev pub front_len : ℕ
front_len = 22
