-- The rows of changes have the kinds that were declared.
use Rattle.std.proofs.Common.{◌≡◌, ℕ, ◌+◌, List, [], ◌∷◌, length, Bool, true, false, ℤ, Option, Some, None, option_map, arith, Result, Ok, Err, cond, refl, subst}
use Rattle.std.specs.Prelude.{All, IfOk, ◌==◌}
use Rattle.std.specs.Result.{result_ok}
use Rattle.std.proofs.lemmas.List.Elements.{All-cons, All-nil}
use Rattle.csv.specs.Records.{field_at}
use Rattle.json_fields.proofs.Walks.{both_steps}
use Rattle.json_fields.specs.Walk.{needed, each}
use Rattle.record_text.specs.FieldAtoms.{atom_of_field}
use Rattle.record_text.specs.KindLists.{kind_of, kinds_of}
use Rattle.record_text.specs.declared.atom.Atom.{Atom}
use Rattle.record_text.specs.declared.atom.Atom.TheVariants.{Int}
use Rattle.record_text.specs.declared.field.AtomFault.TheVariants as fault
use Rattle.record_text.specs.declared.kinds.Kind.{Kind}
use Rattle.record_text.specs.declared.kinds.Kind.TheVariants as kind
use Rattle.weighted_set.specs.declared.weighted.Weighted.{Weighted}
use Rattle.csv_changes.specs.Changes.{GivesCsv, atom_at, bad_record, changes_of, row_at, weight_at, weighted_at, weighted_of}
use Rattle.csv_changes.specs.declared.fault.CsvFault.{CsvFault}
use Rattle.csv_changes.specs.declared.fault.CsvWhat.TheVariants as what

-- ---- one field

-- where an Int is asked for, the atom is an Int
int_field : (o : Option ℤ) (atom : Atom) → needed fault.NotInt (option_map Int o) ≡ Ok atom → kind_of atom ≡ kind.Int
int_field None atom e = cc
int_field (Some z) atom e = let one : Int z ≡ atom = cc in rw (← one) refl

kind_of-atom_of_field : (field : List ℕ) (kind : Kind) (atom : Atom) → atom_of_field field kind ≡ Ok atom → kind_of atom ≡ kind
unfolding atom_of_field
kind_of-atom_of_field field kind.Int atom e = int_field _ atom e
kind_of-atom_of_field field kind.Text atom e = grind arith

kind_of-needed : {E : Type 0} (fault : E) (field : List ℕ) (kind : Kind) (atom : Atom) → needed fault (result_ok (atom_of_field field kind)) ≡ Ok atom → kind_of atom ≡ kind
kind_of-needed fault field kind atom e =
    elim (atom_of_field field kind) as (λ r. atom_of_field field kind ≡ r → needed fault (result_ok r) ≡ Ok atom → kind_of atom ≡ kind) [
      | Ok found ↦ λ is same. let one : found ≡ atom = cc in kind_of-atom_of_field field kind atom (rw one at is)
      | Err f ↦ λ is same. cc
    ] refl e

kind_of-atom_at : (at : ℕ) (kind : Kind) (field : Option (List ℕ)) (atom : Atom) → atom_at at kind field ≡ Ok atom → kind_of atom ≡ kind
kind_of-atom_at at kind None atom e = cc
kind_of-atom_at at kind (Some field) atom e = kind_of-needed _ field kind atom e

-- ---- one row, from a column on

kinds_of-each : (at : ℕ) (fields : List (List ℕ)) (column : ℕ) (kinds : List Kind) (row : List Atom)
    → each (λ column kind. atom_at at kind (field_at fields column)) column kinds ≡ Ok row → kinds_of row ≡ kinds
kinds_of-each at fields column [] row e = let none : [] ≡ row = cc in rw (← none) refl
kinds_of-each at fields column (kind ∷ kinds) row e =
    let first = both_steps (atom_at at kind (field_at fields column)) _ row e in
    let rest = both_steps (each (λ column kind. atom_at at kind (field_at fields column)) (column + 1) kinds) _ row first.2 in
    let one = kind_of-atom_at at kind (field_at fields column) first.0 first.1 in
    let more = kinds_of-each at fields (column + 1) kinds rest.0 rest.1 in
    let is : first.0 ∷ rest.0 ≡ row = (let last = rest.2 in cc) in
    rw (← is, one, more) refl

-- ---- one change

kinds_of-weighted_of : (kinds : List Kind) (at : ℕ) (fields : List (List ℕ)) (change : Weighted) → weighted_of kinds at fields ≡ Ok change → kinds_of change.row ≡ kinds
kinds_of-weighted_of kinds at fields change e =
    let row = both_steps (row_at at kinds fields) _ change e in
    let weight = both_steps (weight_at at (field_at fields (length kinds))) _ change row.2 in
    let is : row.0 ≡ change.row = (let last = weight.2 in cc) in
    rw (← is) (kinds_of-each at fields 0 kinds row.0 row.1)

kinds_of-weighted_at : (kinds : List Kind) (at : ℕ) (fields : List (List ℕ)) (change : Weighted) → weighted_at kinds at fields ≡ Ok change → kinds_of change.row ≡ kinds
kinds_of-weighted_at kinds at fields change e =
    elim (length fields == length kinds + 1) as (λ b. cond b (weighted_of kinds at fields) (Err (bad_record at what.Width)) ≡ Ok change → kinds_of change.row ≡ kinds)
    [ true ↦ λ e. kinds_of-weighted_of kinds at fields change e | false ↦ λ e. cc ] e

-- ---- all changes

kinds_of-changes : (kinds : List Kind) (at : ℕ) (rows : List (List (List ℕ))) (changes : List Weighted)
    → each (weighted_at kinds) at rows ≡ Ok changes → All (λ change. kinds_of change.row ≡ kinds) changes
kinds_of-changes kinds at [] changes e = let none : [] ≡ changes = cc in subst (All (λ change. kinds_of change.row ≡ kinds)) none (All-nil (λ change. kinds_of change.row ≡ kinds))
kinds_of-changes kinds at (fields ∷ rows) changes e =
    let first = both_steps (weighted_at kinds at fields) _ changes e in
    let rest = both_steps (each (weighted_at kinds) (at + 1) rows) _ changes first.2 in
    let one = kinds_of-weighted_at kinds at fields first.0 first.1 in
    let more = kinds_of-changes kinds (at + 1) rows rest.0 rest.1 in
    let is : first.0 ∷ rest.0 ≡ changes = (let last = rest.2 in cc) in
    subst (All (λ change. kinds_of change.row ≡ kinds)) is (All-cons (λ change. kinds_of change.row ≡ kinds) first.0 rest.0 one more)

-- the changes that a reader gives
pub kinds_of-given : (csv : List ℕ) (kinds : List Kind) (header : Bool) (given : Result (List Weighted) CsvFault)
    → GivesCsv given (changes_of csv kinds header) → IfOk given (λ changes. All (λ change. kinds_of change.row ≡ kinds) changes)
unfolding changes_of
kinds_of-given csv kinds header (Ok changes) e = kinds_of-changes kinds 0 _ changes e
kinds_of-given csv kinds header (Err fault) e = tt
