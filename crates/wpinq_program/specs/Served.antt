-- What was answered and written between two moments.
use Rattle.std.specs.Prelude.{◌≡◌, ℕ, ℤ, ◌+◌, ◌<◌, Bool, true, false, List, ◌++◌, length, take, Option, MatchBool, MatchResult, Result}
use Rattle.std.specs.List.{flat_map}
use Rattle.io_edge.specs.Known.{Gains}
use Rattle.io_edge.specs.Shelf.{Files}
use Rattle.line_runs.specs.Runs.{Run}
use Rattle.request_machine.specs.Machine.{Answers}
use Rattle.request_machine.specs.State.{State}
use Rattle.wpinq_program.specs.Faults.{RoseBy, file_replies, noise_replies}
use Rattle.wpinq_program.specs.declared.responder.Responder.{Responder}

-- the replies as one text
abbrev pub joined : List (List ℕ) → List ℕ
joined replies = flat_map (λ reply. reply) replies

-- some of the text from its front, and not all of it
abbrev pub IsProperFront : List ℕ → List ℕ → Type 0
IsProperFront part text = (n : ℕ) × (n < length text) × (part ≡ take n text)

-- at some moment, the machine's state, the lines that have a reply, what is known of the sink and of the noise, and the
-- counts of faults of the noise and of the shelf
pub record Moment : Type 0 where
  pub state : State
  pub lines : ℕ
  pub written : Option (List ℕ)
  pub given : Option (List (ℕ × ℤ))
  pub noise_faults : ℕ
  pub shelf_faults : ℕ

-- what is known of a run with this state
abbrev pub known : ℕ → Option (List ℕ) → Option (List (ℕ × ℤ)) → ℕ → ℕ → State → Moment
known lines written given noise_faults shelf_faults state = record {
  state = state;
  lines = lines;
  written = written;
  given = given;
  noise_faults = noise_faults;
  shelf_faults = shelf_faults;
}

-- what is known of a run with this responder
abbrev pub seen : Responder → Option (List ℕ) → Option (List (ℕ × ℤ)) → ℕ → ℕ → Moment
seen responder written given noise_faults shelf_faults =
    known responder.lines written given noise_faults shelf_faults responder.session

-- From old to new the machine ran over these lines and had these replies, where `files` are the shelf's, if they are
-- known. The counts of the noise and of the shelf each rose at least as often as a reply refuses for that device's sake,
-- or stand at their last value.
pub record Ran (files : Option Files) (old new : Moment) (lines replies : List (List ℕ)) : Type 0 where
  pub given : List (ℕ × ℤ)
  pub run : Run (Answers files) old.state lines given replies new.state
  pub drawn : Gains old.given new.given given
  pub count : new.lines ≡ old.lines + length replies
  pub noise : RoseBy (noise_replies replies) old.noise_faults new.noise_faults
  pub shelf : RoseBy (file_replies replies) old.shelf_faults new.shelf_faults

-- from old to new these replies were written: all of them, or a proper front
pub record Wrote (old new : Moment) (replies : List (List ℕ)) (all : Bool) : Type 0 where
  pub text : List ℕ
  pub put : Gains old.written new.written text
  pub whole : MatchBool all (text ≡ joined replies) (IsProperFront text (joined replies))

-- the machine ran over these lines, and its replies were written
pub record Served (files : Option Files) (old new : Moment) (lines : List (List ℕ)) (all : Bool) : Type 0 where
  pub replies : List (List ℕ)
  pub ran : Ran files old new lines replies
  pub wrote : Wrote old new replies all

-- the machine ran over some of the lines, from their front, and a proper front of its replies was written
pub record ServedInPart (files : Option Files) (old new : Moment) (lines : List (List ℕ)) : Type 0 where
  pub done : List (List ℕ)
  pub rest : List (List ℕ)
  pub front : lines ≡ done ++ rest
  pub served : Served files old new done false

-- what a piece's lines come to: all are served, or they are in part where the sink failed
abbrev pub PieceServed : {E : Type 0} → Option Files → Result (Unit {0}) E → Moment → Moment → List (List ℕ) → Type 0
PieceServed files result old new lines =
    MatchResult result (λ _. Served files old new lines true) (λ _. ServedInPart files old new lines)
