-- The kinds at the columns of rows.
use Rattle.std.proofs.Common.{◌≡◌, ℕ, zero, suc, ◌<◌, ◌∙◌, true, List, [], ◌∷◌, Some, length, ap, arith, true≢false, sym}
use Rattle.std.specs.Prelude.{is_some, option_map, slice_get}
use Rattle.std.proofs.lemmas.Option.{slice_get-map}
use Rattle.record_text.specs.declared.atom.Atom.{Atom}
use Rattle.record_text.specs.KindLists.{kind_of, kinds_of}

-- what a row's kinds have at a column
pub kind_at : (row : List Atom) (c : ℕ) (atom : Atom) → slice_get row c ≡ Some atom → slice_get (kinds_of row) c ≡ Some (kind_of atom)
kind_at row c atom at = slice_get-map kind_of row c ∙ ap (option_map kind_of) at

-- a column that has a kind is below the width
pub below_width : (row : List Atom) (c : ℕ) → is_some (slice_get (kinds_of row) c) ≡ true → c < length row
below_width [] c some = absurd (true≢false (sym some))
below_width (atom ∷ row) zero some = omega arith
below_width (atom ∷ row) (suc c) some = let rest = below_width row c some in omega (arith, rest)
