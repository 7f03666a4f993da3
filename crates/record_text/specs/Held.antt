-- The atoms and the rows that the types of this crate can hold.
use Rattle.std.specs.Prelude.{◌<◌, ◌≤◌, List, length, All, FitsSigned}
use Rattle.std.specs.Int.{w64}
use Rattle.record_text.specs.declared.atom.Atom.{Atom}
use Rattle.record_text.specs.declared.atom.Atom.TheVariants.{Int, Text}

-- an i64, or a text of at most 255 bytes
abbrev pub IsAtom : Atom → Type 0
IsAtom (Int z) = FitsSigned w64 z
IsAtom (Text text) = length text ≤ 255

-- 1 to 16 such atoms
pub record IsRow (row : List Atom) : Type 0 where
  pub some : 0 < length row
  pub few : length row ≤ 16
  pub atoms : All IsAtom row
