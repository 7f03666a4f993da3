-- Lines that are all answered, where only the last replies are written.
use Rattle.std.specs.Prelude.{Option, ◌≡◌, ℕ, ◌-◌, Bool, true, false, List, ◌++◌, count_by, drop, length, nat_lt, MatchResult, Result}
use Rattle.io_edge.specs.Shelf.{Files}
use Rattle.line_runs.specs.Lines.{Lines}
use Rattle.demo_input.specs.Demo.{demo_text}
use Rattle.wpinq_program.specs.Served.{Moment, Ran, Wrote}

-- how many of the lines have a reply: those that aren't empty
abbrev pub reply_count : List (List ℕ) → ℕ
reply_count lines = count_by (λ line. nat_lt 0 (length line)) lines

-- the machine ran over these lines, and its replies but the first `quiet` were written
pub record Shown (files : Option Files) (old new : Moment) (quiet : ℕ) (lines : List (List ℕ)) (all : Bool) : Type 0 where
  pub replies : List (List ℕ)
  pub ran : Ran files old new lines replies
  pub wrote : Wrote old new (drop quiet replies) all

-- the machine ran over some of the lines, from their front, and a proper front of what would be shown was written
pub record ShownInPart (files : Option Files) (old new : Moment) (quiet : ℕ) (lines : List (List ℕ)) : Type 0 where
  pub done : List (List ℕ)
  pub rest : List (List ℕ)
  pub front : lines ≡ done ++ rest
  pub shown : Shown files old new quiet done false

-- what such lines come to: all are answered, or they are in part where the sink failed
abbrev pub LinesShown : {E : Type 0} → Option Files → Result (Unit {0}) E → Moment → Moment → ℕ → List (List ℕ) → Type 0
LinesShown files result old new quiet lines =
    MatchResult result (λ _. Shown files old new quiet lines true) (λ _. ShownInPart files old new quiet lines)

-- how many of a demo's replies aren't written: all but the last three
abbrev pub quiet_count : ℕ → ℕ
quiet_count n = reply_count (Lines (demo_text n)) - 3
