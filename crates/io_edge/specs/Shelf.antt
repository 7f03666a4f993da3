-- Files by their paths, and what a shelf gives of them.
use Rattle.std.specs.Prelude.{◌≡◌, ℕ, ◌+◌, ◌≤◌, List, [], ◌∷◌, ◌++◌, filter, length, nat_eq, not, Option, None, Some, IfSome, Result, Ok, Err}
use Rattle.std.specs.Cmp.Lexicographic.{pointwise}
use Rattle.std.specs.Map.{lookup}
use Rattle.io_edge.specs.declared.shelf_fault.ShelfFault.{ShelfFault}
use Rattle.io_edge.specs.declared.shelf_fault.ShelfFault.TheVariants.{Failed, Missing, Long, Memory}

-- pairs of a path and the bytes of the file there
abbrev pub Files : Type 0
Files = List ((List ℕ) × (List ℕ))

-- the bytes of the file at the path, which is the first of that path
abbrev pub file_at : Files → List ℕ → Option (List ℕ)
file_at files path = lookup (λ name. pointwise nat_eq name path) files

-- the files at other paths, and then one with these bytes at the path
abbrev pub with_file : Files → List ℕ → List ℕ → Files
with_file files path bytes = filter (λ file. not (pointwise nat_eq file.0 path)) files ++ (path, bytes) ∷ []

-- What a fetch leaves in its buffer, by its answer:
-- a file of at most max bytes, the first max + 1 bytes of a longer one, and else nothing.
-- Where the files are known, one that is missing isn't among them; a shelf may want memory before it looks.
abbrev pub FetchOutcome : Option Files → List ℕ → ℕ → Result (Unit {0}) ShelfFault → List ℕ → Type 0
FetchOutcome known path max (Ok done) into =
    (length into ≤ max) × IfSome known (λ files. file_at files path ≡ Some into)
FetchOutcome known path max (Err Long) into =
    (length into ≡ max + 1) × IfSome known (λ files. (rest : List ℕ) × (file_at files path ≡ Some (into ++ rest)))
FetchOutcome known path max (Err Missing) into = (into ≡ []) × IfSome known (λ files. file_at files path ≡ None)
FetchOutcome known path max (Err Memory) into = into ≡ []
FetchOutcome known path max (Err Failed) into = into ≡ []
