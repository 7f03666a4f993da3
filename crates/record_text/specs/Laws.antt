-- Laws of rows, atoms, kinds and names, each the contract of a function.
use Rattle.std.specs.Prelude.{◌≡◌, Bool, true, List, ◌∷◌, ◌++◌, ◌↔◌, Ok}
use Rattle.std.specs.declared.cmp.Ordering.{Ordering}
use Rattle.std.specs.declared.cmp.Ordering.TheVariants.{Less, Equal}
use Rattle.record_text.specs.declared.atom.Atom.{Atom}
use Rattle.record_text.specs.Held.{IsRow}
use Rattle.record_text.specs.Order.{row_cmp}
use Rattle.record_text.specs.JsonRows.{row_of, row_data}

-- only equal values tie
abbrev pub TieIsEquality : {A : Type 0} → (A → A → Ordering) → Type 0
TieIsEquality {A = A} compare = (a b : A) → compare a b ≡ Equal → a ≡ b

-- the test holds exactly at equal values
abbrev pub DecidesEquality : {A : Type 0} → (A → A → Bool) → Type 0
DecidesEquality {A = A} test = (a b : A) → (test a b ≡ true) ↔ (a ≡ b)

-- a row comes before every row that it is a proper prefix of
abbrev pub PrefixFirst : Type 0
PrefixFirst = (front rest : List Atom) (next : Atom) → row_cmp front (front ++ next ∷ rest) ≡ Less

-- a row is read back from what it is written as
abbrev pub RowReadsBack : Type 0
RowReadsBack = (row : List Atom) → IsRow row → row_of (row_data row) ≡ Ok row
