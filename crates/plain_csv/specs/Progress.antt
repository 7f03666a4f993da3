-- How far the records of a text are read.
use Rattle.std.specs.Prelude.{ℕ, Bool, List, [], ◌∷◌, if◌then◌else◌}

-- the fields of the record that was read last, and the records that are left
pub record Progress : Type 0 where
  pub fields : List (List ℕ)
  pub left : List (List (List ℕ))

-- a record that was found, and those that are left behind it; or none
abbrev pub found_and_left : Bool → Progress → List (List (List ℕ))
found_and_left found progress = if found then progress.fields ∷ progress.left else []
