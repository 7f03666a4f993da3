-- A walk over a value answers what it denotes, or the first fault that it meets.
use Rattle.std.specs.Prelude.{ℕ, ◌+◌, List, [], ◌∷◌, Option, Some, None, Result, Ok, Err}

-- the fault of the first walk, or what the second makes of its value
infixl 10 ◌>>=◌
abbrev pub ◌>>=◌ : {A B E : Type 0} → Result A E → (A → Result B E) → Result B E
(Ok x) >>= f = f x
(Err e) >>= f = Err e

-- what is there, or the fault that it is missing
abbrev pub needed : {A E : Type 0} → E → Option A → Result A E
needed fault None = Err fault
needed fault (Some x) = Ok x

-- what each member of a list gives, told its place, of which the first is `at`; or the first fault
abbrev pub each : {D A E : Type 0} → (ℕ → D → Result A E) → ℕ → List D → Result (List A) E
each f at [] = Ok []
each f at (d ∷ ds) = do
  x ← f at d
  xs ← each f (at + 1) ds
  Ok (x ∷ xs)
