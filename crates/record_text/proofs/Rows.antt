-- Rows in their order, and rows written as JSON and read back.
use Rattle.std.proofs.Common.{◌≡◌, ℕ, ◌+◌, ◌<◌, List, [], ◌∷◌, ◌++◌, length, take, get_or, map, false, Ok, pos, negsuc, refl, lt-ltb, le-leb}
use Rattle.std.specs.Cmp.{tied_itself}
use Rattle.std.specs.Prelude.{All}
use Rattle.std.proofs.lemmas.List.{length-map, map-append, take_more}
use Rattle.std.proofs.lemmas.List.Elements.{All-head, All-tail}
use Rattle.json_fields.proofs.Members.{data_list-items_of}
use Rattle.json_fields.specs.Walk.{each}
use Rattle.serde_json.specs.View.{view}
use Rattle.serde_json.specs.Written.{has_float}
use Rattle.serde_json.specs.declared.value.Value.{Value}
use Rattle.record_text.specs.declared.atom.Atom.{Atom}
use Rattle.record_text.specs.declared.atom.Atom.TheVariants.{Int, Text}
use Rattle.record_text.specs.Held.{IsAtom}
use Rattle.record_text.specs.JsonRows.{atom_in, atom_data, row_of, row_data}
use Rattle.record_text.specs.Laws.{PrefixFirst, RowReadsBack}
use Rattle.record_text.specs.OrderLaws.{atom_total}

pub prefix_first : PrefixFirst
prefix_first [] rest next = refl
prefix_first (a ∷ front) rest next = rw (tied_itself atom_total a) (prefix_first front rest next)

-- ---- reading back

atom_in-atom_data : (at : ℕ) (atom : Atom) → IsAtom atom → atom_in at (atom_data atom) ≡ Ok atom
atom_in-atom_data at (Int (pos n)) held = rw (lt-ltb _ _ held.sfits) refl
atom_in-atom_data at (Int (negsuc n)) held = refl
atom_in-atom_data at (Text text) held = rw (le-leb _ _ held) refl

each-atom_data : (row : List Atom) (at : ℕ) → All IsAtom row → each atom_in at (map atom_data row) ≡ Ok row
each-atom_data [] at held = refl
each-atom_data (atom ∷ row) at held =
    rw (atom_in-atom_data at atom (All-head IsAtom atom row held), each-atom_data row (at + 1) (All-tail IsAtom atom row held)) refl

pub row_reads_back : RowReadsBack
unfolding row_of
row_reads_back row held =
    rw (data_list-items_of (map atom_data row), length-map row atom_data, lt-ltb _ _ held.some, le-leb _ _ held.few, each-atom_data row 0 held.atoms) refl

-- ---- writing

-- there is no float in a row
pub has_float-row_data : (row : List Atom) → has_float (row_data row) ≡ false
has_float-row_data [] = refl
has_float-row_data (Int (pos n) ∷ row) = has_float-row_data row
has_float-row_data (Int (negsuc n) ∷ row) = has_float-row_data row
has_float-row_data (Text text ∷ row) = has_float-row_data row

-- the next atom is written
pub written_next : (values : List Value) (atoms : List Atom) (i : ℕ) (value : Value) (atom : Atom) → i < length atoms → atom ≡ get_or atoms i atom
    → view value ≡ atom_data atom → map view values ≡ map atom_data (take i atoms) → map view (values ++ value ∷ []) ≡ map atom_data (take (i + 1) atoms)
written_next values atoms i value atom below is one front =
    rw (map-append view values (value ∷ []), front, one, take_more atoms i atom below, map-append atom_data (take i atoms) (get_or atoms i atom ∷ []), ← is) refl
