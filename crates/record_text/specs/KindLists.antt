-- The kinds of atoms, and lists of kinds.
use Rattle.std.specs.Prelude.{◌≡◌, Bool, true, false, List, map, refl}
use Rattle.std.specs.Cmp.{IsEquivalence}
use Rattle.std.specs.Cmp.Lexicographic.{pointwise, lists_equiv}
use Rattle.record_text.specs.declared.atom.Atom.{Atom}
use Rattle.record_text.specs.declared.atom.Atom.TheVariants as atom
use Rattle.record_text.specs.declared.kinds.Kind.{Kind}
use Rattle.record_text.specs.declared.kinds.Kind.TheVariants.{Int, Text}

-- the same kind
abbrev pub kind_eq : Kind → Kind → Bool
kind_eq Int Int = true
kind_eq Int Text = false
kind_eq Text Int = false
kind_eq Text Text = true

-- as many kinds, and each equal to the one at its place
abbrev pub kinds_eq : List Kind → List Kind → Bool
kinds_eq = pointwise kind_eq

-- the kind of an atom
abbrev pub kind_of : Atom → Kind
kind_of (atom.Int a) = Int
kind_of (atom.Text t) = Text

-- the kinds of a row
abbrev pub kinds_of : List Atom → List Kind
kinds_of row = map kind_of row

kind_itself : (a : Kind) → kind_eq a a ≡ true
kind_itself Int = refl
kind_itself Text = refl

kinds_turn : (a b : Kind) → kind_eq a b ≡ kind_eq b a
kinds_turn Int Int = refl
kinds_turn Int Text = refl
kinds_turn Text Int = refl
kinds_turn Text Text = refl

kinds_agree : (a b c : Kind) → kind_eq a b ≡ true → kind_eq a c ≡ kind_eq b c
kinds_agree Int Int c same = refl
kinds_agree Int Text c same = let no : ⊥ = cc in absurd no
kinds_agree Text Int c same = let no : ⊥ = cc in absurd no
kinds_agree Text Text c same = refl

pub kinds_equivalence : IsEquivalence kinds_eq
kinds_equivalence = lists_equiv (record { refl = kind_itself; symm = kinds_turn; congr = kinds_agree })
