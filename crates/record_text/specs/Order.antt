-- The order and the equality of atoms and of rows.
use Rattle.std.specs.Prelude.{ℕ, Bool, false, List, nat_eq}
use Rattle.std.specs.declared.cmp.Ordering.{Ordering}
use Rattle.std.specs.declared.cmp.Ordering.TheVariants.{Less, Greater}
use Rattle.std.specs.Ordering.{nat_cmp, int_cmp, int_eq}
use Rattle.std.specs.Cmp.Lexicographic.{slice_cmp, pointwise}
use Rattle.record_text.specs.declared.atom.Atom.{Atom}
use Rattle.record_text.specs.declared.atom.Atom.TheVariants.{Int, Text}

-- texts by their bytes, a proper prefix first
abbrev pub text_cmp : List ℕ → List ℕ → Ordering
text_cmp = slice_cmp nat_cmp

-- the same bytes
abbrev pub text_eq : List ℕ → List ℕ → Bool
text_eq = pointwise nat_eq

-- every Int before every Text, Ints by value, Texts by their bytes
abbrev pub atom_cmp : Atom → Atom → Ordering
atom_cmp (Int a) (Int b) = int_cmp a b
atom_cmp (Int a) (Text b) = Less
atom_cmp (Text a) (Int b) = Greater
atom_cmp (Text a) (Text b) = text_cmp a b

-- two Ints of one value, or two Texts of the same bytes
abbrev pub atom_eq : Atom → Atom → Bool
atom_eq (Int a) (Int b) = int_eq a b
atom_eq (Int a) (Text b) = false
atom_eq (Text a) (Int b) = false
atom_eq (Text a) (Text b) = text_eq a b

-- atom by atom, a proper prefix first
abbrev pub row_cmp : List Atom → List Atom → Ordering
row_cmp = slice_cmp atom_cmp

-- as many atoms, and each equal to the one at its place
abbrev pub row_eq : List Atom → List Atom → Bool
row_eq = pointwise atom_eq
