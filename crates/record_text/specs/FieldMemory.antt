-- Where the reading of a field may want memory.
use Rattle.std.specs.Prelude.{⊤, Result, Ok, Err}
use Rattle.record_text.specs.declared.atom.Atom.{Atom}
use Rattle.record_text.specs.declared.atom.Atom.TheVariants.{Int, Text}
use Rattle.record_text.specs.declared.field.AtomFault.{AtomFault}
use Rattle.record_text.specs.declared.field.AtomFault.TheVariants as fault

-- the atom is a Text, whose bytes are copied
abbrev pub IsText : Result Atom AtomFault → Type 0
IsText (Ok (Text text)) = ⊤
IsText (Ok (Int z)) = ⊥
IsText (Err f) = ⊥

-- want of memory comes in place of a Text alone
abbrev pub WantsForText : Result Atom AtomFault → Result Atom AtomFault → Type 0
WantsForText (Err fault.Memory) denoted = IsText denoted
WantsForText (Err fault.NotInt) denoted = ⊤
WantsForText (Err fault.NotUtf8) denoted = ⊤
WantsForText (Err fault.TextLong) denoted = ⊤
WantsForText (Ok atom) denoted = ⊤
