-- A run of a machine over lines, with one reply to each line that isn't empty.
use Rattle.std.specs.Prelude.{◌≡◌, ℕ, ℤ, List, [], ◌∷◌, ◌++◌}

-- what a machine's answering relation says of: the state before, a line, the pairs of epsilon and noise that it takes,
-- its reply, and the state after
abbrev pub Answering : Type 0 → Type 1
Answering State = State → List ℕ → List (ℕ × ℤ) → List ℕ → State → Type 0

-- a run over one line: an empty line changes nothing and has no reply, any other has exactly one
abbrev pub LineRuns : {State : Type 0} → Answering State
    → State → List ℕ → List (ℕ × ℤ) → List (List ℕ) → State → Type 0
LineRuns answers old [] given replies new = (given ≡ []) × (replies ≡ []) × (new ≡ old)
LineRuns answers old (byte ∷ line) given replies new =
    (reply : List ℕ) × (replies ≡ reply ∷ []) × answers old (byte ∷ line) given reply new

-- a run over lines, one after another, each from the state where the one before it ended
unfoldable pub Run : {State : Type 0} → Answering State
    → State → List (List ℕ) → List (ℕ × ℤ) → List (List ℕ) → State → Type 0
Run answers old [] given replies new = (given ≡ []) × (replies ≡ []) × (new ≡ old)
Run {State = State} answers old (line ∷ lines) given replies new =
    (first_given : List (ℕ × ℤ)) × (other_given : List (ℕ × ℤ))
    × (first_replies : List (List ℕ)) × (other_replies : List (List ℕ)) × (middle : State)
    × (given ≡ first_given ++ other_given) × (replies ≡ first_replies ++ other_replies)
    × LineRuns answers old line first_given first_replies middle
    × Run answers middle lines other_given other_replies new
