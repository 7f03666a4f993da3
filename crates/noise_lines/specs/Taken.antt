-- What is taken of a source by a line's number, where its bytes are known.
use Rattle.std.specs.Prelude.{◌≡◌, ◌≢◌, ◌-◌, ◌^◌, ◌⊎◌, ℕ, ℤ, List, [], ◌∷◌, ◌++◌, All, length, take, Option, None, Some, Result, Ok, Err}
use Rattle.io_edge.specs.Causes.{Rose}
use Rattle.io_edge.specs.Known.{IsUsedUp, Loses}
use Rattle.io_edge.specs.declared.failed.Failed.{Failed}
use Rattle.noise_lines.specs.Lines.{front_len, number_of}
use Rattle.noise_lines.specs.declared.take.Taken.{Taken}
use Rattle.noise_lines.specs.declared.take.Taken.TheVariants as taken

-- a byte is taken, or nothing at the end or where the source fails
abbrev pub ByteTaken : Option (List ℕ) → Option (List ℕ) → Result (Option ℕ) Failed → Type 0
ByteTaken old new (Ok (Some byte)) = Loses old new (byte ∷ [])
ByteTaken old new (Ok None) = IsUsedUp old × (new ≡ old)
ByteTaken old new (Err e) = new ≡ old

-- a part of a line was taken, without an LF
pub record TakesPart (old new : Option (List ℕ)) (part : List ℕ) : Type 0 where
  pub one : All (λ byte. byte ≢ 10) part
  pub taken : Loses old new part

-- the rest of a line of which this is begun was taken: with its LF, or up to the end where the line has a byte or more
pub record TakesRest (begun : List ℕ) (old new : Option (List ℕ)) (rest : List ℕ) : Type 0 where
  pub one : All (λ byte. byte ≢ 10) rest
  pub taken : Loses old new (rest ++ 10 ∷ []) ⊎ (Loses old new rest × (begun ++ rest ≢ []) × IsUsedUp new)

-- how the rest of a line was taken of a source whose count of faults was `before` and is `now`, and what is kept of the
-- line, of which this was begun
abbrev pub Takes : List ℕ → Option (List ℕ) → Option (List ℕ) → ℕ → ℕ → Taken → List ℕ → Type 0
Takes begun old new before now taken.Line kept =
    (rest : List ℕ) × TakesRest begun old new rest × (kept ≡ take front_len (begun ++ rest))
Takes begun old new before now taken.Nothing kept = (begun ≡ []) × (kept ≡ []) × IsUsedUp old × (new ≡ old)
Takes begun old new before now taken.Broken kept =
    (part : List ℕ) × TakesPart old new part × (kept ≡ take front_len (begun ++ part)) × Rose before now
Takes begun old new before now taken.Endless kept =
    (part : List ℕ) × TakesPart old new part × (kept ≡ take front_len (begun ++ part)) × (length part ≡ 2 ^ 64 - 1)

-- Why no number was taken, and what is then kept of the line that is begun: the line has none and is used up, no line is
-- left, or the line goes on, since the source failed or since it gave 2^64 - 1 bytes of it.
abbrev pub WithoutNumber : List ℕ → Option (List ℕ) → Option (List ℕ) → ℕ → ℕ → List ℕ → Type 0
WithoutNumber begun old new before now kept =
    ((rest : List ℕ) × TakesRest begun old new rest × (number_of (begun ++ rest) ≡ None) × (kept ≡ []))
    ⊎ ((begun ≡ []) × (kept ≡ []) × IsUsedUp old × (new ≡ old))
    ⊎ ((part : List ℕ) × TakesPart old new part × (kept ≡ take front_len (begun ++ part))
    × (Rose before now ⊎ (length part ≡ 2 ^ 64 - 1)))

-- the number on the line that is begun, whose rest is taken, or why there is none
abbrev pub NextNumber : List ℕ → Option (List ℕ) → Option (List ℕ) → ℕ → ℕ → Option ℤ → List ℕ → Type 0
NextNumber begun old new before now (Some number) kept =
    (rest : List ℕ) × TakesRest begun old new rest × (number_of (begun ++ rest) ≡ Some number) × (kept ≡ [])
NextNumber begun old new before now None kept = WithoutNumber begun old new before now kept

-- a draw answers the number on the line that it takes, and fails where it takes none
abbrev pub Drawn : List ℕ → Option (List ℕ) → Option (List ℕ) → ℕ → ℕ → Result ℤ Failed → List ℕ → Type 0
Drawn begun old new before now (Ok number) kept = NextNumber begun old new before now (Some number) kept
Drawn begun old new before now (Err e) kept = NextNumber begun old new before now None kept
