-- A field that is asked to be an Int.
use Rattle.std.proofs.Common.{◌≡◌, ℤ, Option, None, Some, Result, Ok, Err, refl}
use Rattle.std.specs.Option.{option_map}
use Rattle.json_fields.specs.Walk.{needed}
use Rattle.record_text.specs.FieldAtoms.{GivesAtom}
use Rattle.record_text.specs.FieldMemory.{WantsForText}
use Rattle.record_text.specs.declared.atom.Atom.{Atom}
use Rattle.record_text.specs.declared.atom.Atom.TheVariants.{Int, Text}
use Rattle.record_text.specs.declared.field.AtomFault.{AtomFault}
use Rattle.record_text.specs.declared.field.AtomFault.TheVariants as fault
use Rattle.noise_lines.specs.Lines.{number_in}

-- what is read is the number that the field is, if it is one
pub number_in-read : (read : Result Atom AtomFault) (number : Option ℤ)
    → GivesAtom read (needed fault.NotInt (option_map Int number))
    → WantsForText read (needed fault.NotInt (option_map Int number)) → number_in read ≡ number
number_in-read (Ok (Int z)) (Some n) gives wants = cc
number_in-read (Ok (Int z)) None gives wants = absurd cc
number_in-read (Ok (Text t)) (Some n) gives wants = absurd cc
number_in-read (Ok (Text t)) None gives wants = refl
number_in-read (Err fault.NotInt) (Some n) gives wants = absurd cc
number_in-read (Err fault.NotUtf8) (Some n) gives wants = absurd cc
number_in-read (Err fault.TextLong) (Some n) gives wants = absurd cc
number_in-read (Err fault.Memory) (Some n) gives wants = absurd wants
number_in-read (Err e) None gives wants = refl
