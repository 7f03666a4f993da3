-- How far the input was taken and answered.
use Rattle.std.specs.Prelude.{◌≡◌, ℕ, ◌≤◌, true, List, [], ◌++◌, length, Option}
use Rattle.io_edge.specs.Causes.{Rose}
use Rattle.io_edge.specs.Known.{Loses, IsUsedUp}
use Rattle.io_edge.specs.Shelf.{Files}
use Rattle.line_runs.specs.Lines.{WholeLines, open_line}
use Rattle.wpinq_program.specs.Served.{Moment, Served, ServedInPart}
use Rattle.wpinq_program.specs.declared.stop.Stop.{Stop}
use Rattle.wpinq_program.specs.declared.stop.Stop.TheVariants.{InputEnd, ReadFault, WriteFault, OverLimit}
use Rattle.wpinq_program.specs.declared.beyond.Beyond.{Beyond}
use Rattle.wpinq_program.specs.declared.beyond.Beyond.TheVariants.{End, Fault, Byte}
use Rattle.wpinq_program.specs.Limits.{kept_of}

-- what a read of one more byte found
abbrev pub BeyondIs : Beyond → List ℕ → Option (List ℕ) → ℕ → ℕ → Type 0
BeyondIs End more left before now = (more ≡ []) × IsUsedUp left
BeyondIs Fault more left before now = (more ≡ []) × Rose before now
BeyondIs Byte more left before now = length more ≡ 1

-- so many bytes were taken, their whole lines are served, and the front of the open line is kept
pub record Streaming (files : Option Files) (total : ℕ) (before now : Option (List ℕ)) (start at : Moment) (begun : List ℕ) : Type 0 where
  pub taken : List ℕ
  pub left : Loses before now taken
  pub len : length taken ≡ total
  pub served : Served files start at (WholeLines taken) true
  pub line : begun ≡ kept_of (open_line [] taken)

-- why no more is read, where `more` was taken beyond the limit
abbrev pub StopsWith : Option Files → Stop → ℕ → List ℕ → List ℕ → Option (List ℕ) → Moment → Moment → List ℕ → Type 0
StopsWith files InputEnd max taken more left start stop begun =
    (more ≡ []) × IsUsedUp left × Served files start stop (WholeLines taken) true
    × (begun ≡ kept_of (open_line [] taken))
StopsWith files ReadFault max taken more left start stop begun =
    (more ≡ []) × Served files start stop (WholeLines taken) true
StopsWith files WriteFault max taken more left start stop begun =
    (more ≡ []) × ServedInPart files start stop (WholeLines taken)
StopsWith files OverLimit max taken more left start stop begun =
    (length more ≡ 1) × (length taken ≡ max) × Served files start stop (WholeLines taken) true

-- the input was taken up to some stop
pub record Streamed (files : Option Files) (max : ℕ) (before after : Option (List ℕ)) (start stop : Moment) (begun : List ℕ) (how : Stop) : Type 0 where
  pub taken : List ℕ
  pub more : List ℕ
  pub left : Loses before after (taken ++ more)
  pub fits : length taken ≤ max
  pub ends : StopsWith files how max taken more after start stop begun
