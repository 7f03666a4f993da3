-- What a reducer has taken up of rows, one after another.
use Rattle.std.specs.Prelude.{ℤ, ◌+ℤ◌, pos, IsTrue, if◌then◌else◌, length, nat_lt, Option, Some, None, option_map}
use Rattle.std.specs.Borrow.{Bor}
use Rattle.std.specs.List.{list_all}
use Rattle.std.specs.Option.{unwrap_or}
use Rattle.std.specs.Ordering.{is_lt}
use Rattle.record_text.specs.Order.{atom_cmp}
use Rattle.record_text.specs.declared.atom.Atom.{Atom}
use Rattle.record_text.specs.declared.atom.Atom.TheVariants.{Int}
use Rattle.datasets.specs.Entries.{Row}
use Rattle.prim_table.specs.Primitives.{clamped}
use Rattle.plan_model.specs.Acceptance.{reducer_columns}
use Rattle.plan_model.specs.Evaluation.{column, number_in}
use Rattle.plan_model.specs.declared.step.Reducer.{Reducer}

-- the number of the rows or the sum of their column, and the least or the greatest atom of it
pub record TakenRows : Type 0 where
  pub number : ℤ
  pub best : Option Atom

-- the atom that is referred to, if there is one
abbrev pub atom_of : Option (Bor Atom) → Option Atom
atom_of best = option_map (λ b. b.now) best

-- before any row
abbrev pub none_taken : TakenRows
none_taken = record { number = pos 0; best = None }

-- the less of an atom and the one before, if there is one
abbrev pub lesser : Option Atom → Atom → Atom
lesser None c = c
lesser (Some b) c = if is_lt (atom_cmp c b) then c else b

-- the greater of them
abbrev pub greater : Option Atom → Atom → Atom
greater None c = c
greater (Some b) c = if is_lt (atom_cmp b c) then c else b

-- with one row more
abbrev pub with_taken : Reducer → TakenRows → Row → TakenRows
with_taken Reducer.Count s x = record { number = s.number +ℤ pos 1; best = s.best }
with_taken (Reducer.Min c) s x = record { number = s.number; best = Some (lesser s.best (column c x)) }
with_taken (Reducer.Max c) s x = record { number = s.number; best = Some (greater s.best (column c x)) }
with_taken (Reducer.Sum c) s x = record { number = s.number +ℤ number_in (column c x); best = s.best }

-- the atom that the rows are reduced to
abbrev pub answer : Reducer → TakenRows → Atom
answer Reducer.Count s = Int (clamped s.number)
answer (Reducer.Min c) s = unwrap_or s.best (Int (pos 0))
answer (Reducer.Max c) s = unwrap_or s.best (Int (pos 0))
answer (Reducer.Sum c) s = Int (clamped s.number)

-- the row has the column that the reducer reads, if it reads one
abbrev pub ReadsRow : Reducer → Row → Type 0
ReadsRow reduce x = IsTrue (list_all (λ c. nat_lt c (length x)) (reducer_columns reduce))
