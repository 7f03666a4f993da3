-- What a shelf of files gives for a line.
use Rattle.std.specs.Prelude.{◌≡◌, ℕ, ◌<◌, ◌≤◌, ⊤, Bool, true, false, List, length, Option, None, Some, IfSome, IsSomeAnd, Result, Ok}
use Rattle.io_edge.specs.Shelf.{Files, file_at}
use Rattle.messages.specs.declared.refusal.Refusal.{Refusal}
use Rattle.messages.specs.declared.request.Request.{Request}
use Rattle.messages.specs.declared.request.Request.TheVariants as request
use Rattle.request_machine.specs.Limits.{max_file}

-- nothing, where no file is asked for; else the bytes of a file, that it is longer than it may be, that there is none, or
-- a fault
pub data Fetched : Type 0 where
  Nothing : Fetched
  Content : List ℕ → Fetched
  Long : Fetched
  Missing : Fetched
  Failed : Fetched

-- what is given for a path: where the files are known, the whole of its file, or that it is too long, or that there is
-- none; or else a fault
abbrev pub Fetches : Option Files → List ℕ → Fetched → Type 0
Fetches known path Nothing = ⊥
Fetches known path (Content bytes) = (length bytes ≤ max_file) × IfSome known (λ files. file_at files path ≡ Some bytes)
Fetches known path Long = IfSome known (λ files. IsSomeAnd (file_at files path) (λ bytes. max_file < length bytes))
Fetches known path Missing = IfSome known (λ files. file_at files path ≡ None)
Fetches known path Failed = ⊤

-- what is given for a line: a load is given what is fetched for its path, and all else nothing
abbrev pub MayFetch : Option Files → Result Request Refusal → Fetched → Type 0
MayFetch known (Ok (request.Load name path header)) fetched = Fetches known path fetched
MayFetch known asked fetched = fetched ≡ Nothing

-- whether a file is asked for
abbrev pub is_load : Result Request Refusal → Bool
is_load (Ok (request.Load name path header)) = true
is_load asked = false
