-- How a run of the program ends, by its status.
use Rattle.std.specs.Prelude.{◌≡◌, ◌≢◌, ◌⊎◌, ◌↔◌, ℕ, ◌<◌, ◌≤◌, true, List, [], length, take, Option, None, Some, IsNone, IsSome, IsSomeAnd}
use Rattle.io_edge.specs.Known.{Loses, IsUsedUp}
use Rattle.io_edge.specs.Shelf.{Files}
use Rattle.line_runs.specs.Lines.{Lines, WholeLines}
use Rattle.demo_input.specs.Demo.{demo_text}
use Rattle.program_words.specs.declared.options.Options.{Options}
use Rattle.request_machine.specs.State.{State, start_state}
use Rattle.wpinq_program.specs.Served.{Moment, Served, ServedInPart}
use Rattle.wpinq_program.specs.Shown.{Shown, ShownInPart, quiet_count}

-- the statuses
abbrev pub IsStatus : ℕ → Type 0
IsStatus status = (status ≡ 0) ⊎ (status ≡ 2) ⊎ (status ≡ 3) ⊎ (status ≡ 4) ⊎ (status ≡ 5) ⊎ (status ≡ 6)

-- What a status says of a run of the input, where `taken` are the bytes that left the source and `left` is what is
-- known of those still in it:
-- 0: the input was taken to its end, and the replies to all its lines are written;
-- 3: the replies to the whole lines that were taken are written, and the line that was cut has none;
-- 4: a proper front of the replies to some lines is written;
-- 6: more than the limit was taken, and the replies to the whole lines within it are written;
-- 5: nothing was taken, answered or written.
pub record Ends (files : Option Files) (max : ℕ) (taken : List ℕ) (left : Option (List ℕ)) (start stop : Moment) (status : ℕ) : Type 0 where
  pub finished : status ≡ 0 → IsUsedUp left × Served files start stop (Lines taken) true
  pub read_fault : status ≡ 3 → Served files start stop (WholeLines taken) true
  pub write_fault : status ≡ 4 → ServedInPart files start stop (Lines taken)
  pub over_limit : status ≡ 6 → Served files start stop (WholeLines (take max taken)) true
  pub limit : (status ≡ 6) ↔ (max < length taken)
  pub idle : status ≡ 5 → (taken ≡ []) × Served files start stop [] true

-- What a status says of a demo:
-- 0: its lines are answered, and the replies to the last three are written;
-- 4: some of its lines are answered, and a proper front of the replies to the last three is written;
-- 5: nothing was answered or written;
-- 3 and 6 never come.
pub record DemoEnds (files : Option Files) (n : ℕ) (start stop : Moment) (status : ℕ) : Type 0 where
  pub finished : status ≡ 0 → Shown files start stop (quiet_count n) (Lines (demo_text n)) true
  pub write_fault : status ≡ 4 → ShownInPart files start stop (quiet_count n) (Lines (demo_text n))
  pub idle : status ≡ 5 → Served files start stop [] true
  pub never_read_fault : status ≢ 3
  pub never_over_limit : status ≢ 6

-- a run of the input took some bytes, left the machine in some state and ended with this status
pub record InputOutcome (files : Option Files) (max : ℕ) (before after : Option (List ℕ)) (start : Moment) (stop : State → Moment) (status : ℕ) : Type 0 where
  pub taken : List ℕ
  pub state : State
  pub left : Loses before after taken
  pub ends : Ends files max taken after start (stop state) status

-- a demo left the machine in some state and ended with this status
pub record DemoOutcome (files : Option Files) (n : ℕ) (start : Moment) (stop : State → Moment) (status : ℕ) : Type 0 where
  pub state : State
  pub ends : DemoEnds files n start (stop state) status

-- what was asked for: the demo, which takes nothing from the source and has exact answers, or the input
abbrev pub OutcomeOf : Option Files → Option ℕ → Options → Option (List ℕ) → Option (List ℕ) → (State → Moment) → (State → Moment) → ℕ → Type 0
OutcomeOf files (Some n) options before after start stop status =
    (after ≡ before) × DemoOutcome files n (start (start_state true)) stop status
OutcomeOf files None options before after start stop status =
    InputOutcome files options.max_bytes before after (start (start_state options.curator)) stop status

-- a run under the words' options; where they give none, nothing was taken, answered, written or drawn
abbrev pub Outcome : Option Files → Option Options → Option (List ℕ) → Option (List ℕ) → (State → Moment) → (State → Moment) → ℕ → Type 0
Outcome files None before after start stop status =
    (after ≡ before) × ((state : State) → Served files (start state) (stop state) [] true)
Outcome files (Some options) before after start stop status =
    OutcomeOf files options.demo options before after start stop status

-- the words ask for a demo
abbrev pub AskDemo : Option Options → Type 0
AskDemo words = IsSomeAnd words (λ options. IsSome options.demo)

-- the words ask for the input, which is known, and within the limit
abbrev pub AskKnownInput : Option Options → Option (List ℕ) → Type 0
AskKnownInput words left = IsSomeAnd words (λ options.
    IsNone options.demo × IsSomeAnd left (λ bytes. length bytes ≤ options.max_bytes))

-- the run came to its end, unless there was no memory at the start
abbrev pub IsComplete : ℕ → Type 0
IsComplete status = (status ≡ 0) ⊎ (status ≡ 5)
