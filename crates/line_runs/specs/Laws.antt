-- Laws of lines and of runs, as the contracts cite them.
use Rattle.std.specs.Prelude.{◌≡◌, ◌≢◌, ◌<◌, ◌↔◌, ℕ, ℤ, List, [], ◌∷◌, ◌++◌, All, length, count_by, nat_lt}
use Rattle.line_runs.specs.Lines.{without_cr, whole_lines, open_line, last_line, WholeLines, Lines}
use Rattle.line_runs.specs.Runs.{Answering, Run}

-- the whole lines of two pieces are those of the first, then those of the second after what the first left open
abbrev pub WholeLinesCut : Type 0
WholeLinesCut = (begun first second : List ℕ)
    → whole_lines begun (first ++ second)
    ≡ whole_lines begun first ++ whole_lines (open_line begun first) second

-- two pieces leave open what the second leaves open after the first
abbrev pub OpenLineCut : Type 0
OpenLineCut = (begun first second : List ℕ)
    → open_line begun (first ++ second) ≡ open_line (open_line begun first) second

-- the whole lines of a stream that comes in two pieces
abbrev pub WholeLinesOfPieces : Type 0
WholeLinesOfPieces = (first second : List ℕ)
    → WholeLines (first ++ second) ≡ WholeLines first ++ whole_lines (open_line [] first) second

-- the lines of a stream that comes in two pieces
abbrev pub LinesOfPieces : Type 0
LinesOfPieces = (first second : List ℕ)
    → Lines (first ++ second)
    ≡ WholeLines first ++ whole_lines (open_line [] first) second
    ++ last_line (open_line (open_line [] first) second)

-- bytes without an LF and the LF after them are one line, before the lines of what follows
abbrev pub OneLine : Type 0
OneLine = (line bytes : List ℕ) → All (λ byte. byte ≢ 10) line
    → Lines (line ++ 10 ∷ bytes) ≡ without_cr line ∷ Lines bytes

-- bytes without an LF at the end of the stream are one line, unless there are none
abbrev pub LastLine : Type 0
LastLine = (line : List ℕ) → All (λ byte. byte ≢ 10) line → Lines line ≡ last_line line

-- a CR before an LF is dropped, and only one; an empty line is a line; the last line may lack its LF, and loses its CR
-- too: `a` CR LF, LF, `b` CR CR LF, `c` CR
abbrev pub WorkedLines : Type 0
WorkedLines = Lines (97 ∷ 13 ∷ 10 ∷ 10 ∷ 98 ∷ 13 ∷ 13 ∷ 10 ∷ 99 ∷ 13 ∷ [])
    ≡ (97 ∷ []) ∷ [] ∷ (98 ∷ 13 ∷ []) ∷ (99 ∷ []) ∷ []

-- the same bytes have three whole lines
abbrev pub WorkedWholeLines : Type 0
WorkedWholeLines = WholeLines (97 ∷ 13 ∷ 10 ∷ 10 ∷ 98 ∷ 13 ∷ 13 ∷ 10 ∷ 99 ∷ 13 ∷ [])
    ≡ (97 ∷ []) ∷ [] ∷ (98 ∷ 13 ∷ []) ∷ []

-- a run that begins where another ended makes one run with it
abbrev pub RunsJoin : {State : Type 0} → Answering State → Type 0
RunsJoin {State = State} answers = (old middle new : State) (first second : List (List ℕ))
    (first_given second_given : List (ℕ × ℤ)) (first_replies second_replies : List (List ℕ))
    → Run answers old first first_given first_replies middle
    → Run answers middle second second_given second_replies new
    → Run answers old (first ++ second) (first_given ++ second_given) (first_replies ++ second_replies) new

-- a run over lines that are cut somewhere is two runs, the second of which begins where the first ended
abbrev pub RunsSplit : {State : Type 0} → Answering State → Type 0
RunsSplit {State = State} answers = (old new : State) (first second : List (List ℕ))
    (given : List (ℕ × ℤ)) (replies : List (List ℕ))
    → Run answers old (first ++ second) given replies new
    → (first_given : List (ℕ × ℤ)) × (second_given : List (ℕ × ℤ))
    × (first_replies : List (List ℕ)) × (second_replies : List (List ℕ)) × (middle : State)
    × (given ≡ first_given ++ second_given) × (replies ≡ first_replies ++ second_replies)
    × Run answers old first first_given first_replies middle
    × Run answers middle second second_given second_replies new

-- an empty line takes nothing, has no reply and keeps the state
abbrev pub SilentLine : {State : Type 0} → Answering State → Type 0
SilentLine {State = State} answers = (old new : State) (given : List (ℕ × ℤ)) (replies : List (List ℕ))
    → Run answers old ([] ∷ []) given replies new ↔ ((given ≡ []) × (replies ≡ []) × (new ≡ old))

-- any other line runs exactly as the machine answers it
abbrev pub AnsweredLine : {State : Type 0} → Answering State → Type 0
AnsweredLine {State = State} answers = (old new : State) (line : List ℕ)
    (given : List (ℕ × ℤ)) (replies : List (List ℕ))
    → 0 < length line
    → Run answers old (line ∷ []) given replies new
    ↔ ((reply : List ℕ) × (replies ≡ reply ∷ []) × answers old line given reply new)

-- there are as many replies as lines that aren't empty
abbrev pub RepliesCounted : {State : Type 0} → Answering State → Type 0
RepliesCounted {State = State} answers = (old new : State) (lines : List (List ℕ))
    (given : List (ℕ × ℤ)) (replies : List (List ℕ))
    → Run answers old lines given replies new
    → length replies ≡ count_by (λ line. nat_lt 0 (length line)) lines
