-- The changes that a CSV text adds to a source, or the first fault of its records.
use Rattle.std.specs.Prelude.{◌≡◌, ⊤, ℕ, ◌+◌, ◌==◌, Bool, List, [], length, drop, if◌then◌else◌, Option, Result, Ok, Err}
use Rattle.std.specs.Result.{result_ok}
use Rattle.csv.specs.Reading.{default_config, strip_bom, records}
use Rattle.csv.specs.Records.{field_at}
use Rattle.json_fields.specs.Walk.{◌>>=◌, needed, each}
use Rattle.ratios.specs.Ratio.{Ratio}
use Rattle.frac_core.specs.Text.{weight_of}
use Rattle.record_text.specs.FieldAtoms.{atom_of_field}
use Rattle.record_text.specs.declared.atom.Atom.{Atom}
use Rattle.record_text.specs.declared.field.AtomFault.{AtomFault}
use Rattle.record_text.specs.declared.field.AtomFault.TheVariants as atom_fault
use Rattle.record_text.specs.declared.kinds.Kind.{Kind}
use Rattle.record_text.specs.declared.kinds.Kind.TheVariants as kind
use Rattle.weighted_set.specs.declared.weighted.Weighted.{Weighted}
use Rattle.csv_changes.specs.declared.fault.CsvFault.{CsvFault}
use Rattle.csv_changes.specs.declared.fault.CsvFault.TheVariants as fault
use Rattle.csv_changes.specs.declared.fault.CsvWhat.{CsvWhat}
use Rattle.csv_changes.specs.declared.fault.CsvWhat.TheVariants as what

-- the place of a record, and what keeps it from being a change
pub record BadRecord : Type 0 where
  pub at : ℕ
  pub what : CsvWhat

-- the record at this place has this fault
abbrev pub bad_record : ℕ → CsvWhat → BadRecord
bad_record at w = record { at = at; what = w }

-- ---- one record

-- the fault of a field that is no atom of its column's kind
abbrev pub fault_of_kind : Kind → CsvWhat
fault_of_kind kind.Int = what.Int
fault_of_kind kind.Text = what.Text

-- the answer about a field, told of its record: a fault is that of the column's kind, and want of memory stays
abbrev pub at_record : ℕ → Kind → Result Atom AtomFault → Result Atom CsvFault
at_record at kind (Ok atom) = Ok atom
at_record at kind (Err atom_fault.Memory) = Err fault.Memory
at_record at kind (Err atom_fault.NotInt) = Err (fault.Bad at (fault_of_kind kind))
at_record at kind (Err atom_fault.NotUtf8) = Err (fault.Bad at (fault_of_kind kind))
at_record at kind (Err atom_fault.TextLong) = Err (fault.Bad at (fault_of_kind kind))

-- the atom of a column's field, which is to be of the column's kind
abbrev pub atom_at : ℕ → Kind → Option (List ℕ) → Result Atom BadRecord
atom_at at kind field = do
  text ← needed (bad_record at what.Width) field
  needed (bad_record at (fault_of_kind kind)) (result_ok (atom_of_field text kind))

-- an atom for each kind, from the field in its column
abbrev pub row_at : ℕ → List Kind → List (List ℕ) → Result (List Atom) BadRecord
row_at at kinds fields = each (λ column kind. atom_at at kind (field_at fields column)) 0 kinds

-- the weight of a field
abbrev pub weight_at : ℕ → Option (List ℕ) → Result Ratio BadRecord
weight_at at field = do
  text ← needed (bad_record at what.Width) field
  needed (bad_record at what.Weight) (result_ok (weight_of text))

-- the row of the first fields, and the weight of the field behind them
abbrev pub weighted_of : List Kind → ℕ → List (List ℕ) → Result Weighted BadRecord
weighted_of kinds at fields = do
  row ← row_at at kinds fields
  weight ← weight_at at (field_at fields (length kinds))
  Ok (record { row = row; weight = weight })

-- the change of a record, which has a field for each kind and one more
abbrev pub weighted_at : List Kind → ℕ → List (List ℕ) → Result Weighted BadRecord
weighted_at kinds at fields =
    if length fields == length kinds + 1 then weighted_of kinds at fields else Err (bad_record at what.Width)

-- ---- a text

-- the records without the first, where that is a header
abbrev pub without_header : Bool → List (List (List ℕ)) → List (List (List ℕ))
without_header header rows = if header then drop 1 rows else rows

-- those records, where there may be more
abbrev pub left_if : Bool → List (List (List ℕ)) → List (List (List ℕ))
left_if more rows = if more then rows else []

-- the change of each record, of which the first has the place 0
abbrev pub changes_in : List Kind → List (List (List ℕ)) → Result (List Weighted) BadRecord
changes_in kinds rows = each (weighted_at kinds) 0 rows

-- the changes of a text, whose records have commas and double quotes; a byte order mark at its start is no part of it
unfoldable pub changes_of : List ℕ → List Kind → Bool → Result (List Weighted) BadRecord
changes_of csv kinds header = changes_in kinds (without_header header (records default_config (strip_bom csv)))

-- ---- what a reader returns, beside what the text denotes

-- want of memory may come at any place, and else the fault is the one that is denoted
abbrev pub FailsCsv : {A : Type 0} → CsvFault → Result A BadRecord → Type 0
FailsCsv fault.Memory denoted = ⊤
FailsCsv (fault.Bad at w) denoted = denoted ≡ Err (bad_record at w)

-- what was returned is what is denoted, unless there was no memory
abbrev pub GivesCsv : {A : Type 0} → Result A CsvFault → Result A BadRecord → Type 0
GivesCsv (Ok x) denoted = denoted ≡ Ok x
GivesCsv (Err e) denoted = FailsCsv e denoted
