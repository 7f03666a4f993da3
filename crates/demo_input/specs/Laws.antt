-- Laws of the demo's lines, as the contract cites them.
use Rattle.std.specs.Prelude.{◌≡◌, ◌+◌, ◌*◌, ◌<◌, ◌++◌, ℕ, [], All, count_by, length, min, nat_lt}
use Rattle.line_runs.specs.Lines.{Lines, WholeLines, open_line}
use Rattle.demo_input.specs.Demo.{demo_questions, demo_setup, demo_text}

-- a demo is its setup, then its questions
abbrev pub TextOfDemo : Type 0
TextOfDemo = (n : ℕ) → demo_text n ≡ demo_setup n ++ demo_questions

-- the lines of a demo that an LF ends are those of its setup, then those of its questions
abbrev pub WholeLinesOfDemo : Type 0
WholeLinesOfDemo = (n : ℕ) → WholeLines (demo_text n) ≡ WholeLines (demo_setup n) ++ WholeLines demo_questions

-- an LF ends every line of a demo
abbrev pub LinesOfDemo : Type 0
LinesOfDemo = (n : ℕ) → Lines (demo_text n) ≡ WholeLines (demo_text n)

-- an LF ends every line of a demo's setup, and no line is open after it
abbrev pub LinesOfSetup : Type 0
LinesOfSetup = (n : ℕ) → (Lines (demo_setup n) ≡ WholeLines (demo_setup n)) × (open_line [] (demo_setup n) ≡ [])

-- the questions are three lines, none of them empty, an LF ends each, and no line is open after them
pub record QuestionLines : Type 0 where
  pub three : length (WholeLines demo_questions) ≡ 3
  pub full : All (λ line. 0 < length line) (WholeLines demo_questions)
  pub whole : Lines demo_questions ≡ WholeLines demo_questions
  pub closed : open_line [] demo_questions ≡ []

-- the lines that aren't empty: six beside the updates, of which each node of a block has two at each of its offsets
abbrev pub FullLinesCounted : Type 0
FullLinesCounted = (n : ℕ) → count_by (λ line. nat_lt 0 (length line)) (Lines (demo_text n))
    ≡ 6 + 2 * (50 * n + 100 * min n 5 + 150 * min n 2 + 200)
