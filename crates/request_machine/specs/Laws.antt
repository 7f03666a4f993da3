-- Laws of the request machine.
use Rattle.std.specs.Prelude.{ℕ, ℤ, List, Option, ◌≡◌, ◌≢◌}
use Rattle.io_edge.specs.Shelf.{Files}
use Rattle.request_text.specs.Requests.{request_on}
use Rattle.request_machine.specs.Fetches.{Failed, Fetched, MayFetch}
use Rattle.request_machine.specs.Machine.{file_line, memory_line, noise_line, stage, step}
use Rattle.request_machine.specs.Stages.{LacksNoise}
use Rattle.request_machine.specs.State.{State}

-- no step's reply is the line for want of memory
abbrev pub RepliesAreApart : Type 0
RepliesAreApart =
    (state : State) (line : List ℕ) (drawn : List ℤ) (fetched : Fetched) → (step state line drawn fetched).1 ≢ memory_line

-- a reply is the refusal for noise only of a measurement that has fewer numbers than rows
abbrev pub OnlyShortNoise : Type 0
OnlyShortNoise =
    (state : State) (line : List ℕ) (drawn : List ℤ) (fetched : Fetched)
    → (step state line drawn fetched).1 ≡ noise_line → LacksNoise (stage state line fetched) drawn

-- a reply is the refusal for a file only where the shelf failed
abbrev pub OnlyFailedFile : Type 0
OnlyFailedFile =
    (files : Option Files) (state : State) (line : List ℕ) (drawn : List ℤ) (fetched : Fetched)
    → MayFetch files (request_on line) fetched → (step state line drawn fetched).1 ≡ file_line → fetched ≡ Failed
