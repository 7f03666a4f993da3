-- Lines of a stream that comes in pieces.
use Rattle.std.proofs.Common.{◌≡◌, ◌≢◌, ◌==◌, ℕ, true, false, List, [], ◌∷◌, ◌++◌, refl, ap, sym, ◌∙◌, append_assoc, append-nil, cond, length, take, ◌≤◌, ◌+◌, ◌-◌, arith, length-take}
use Rattle.std.specs.Prelude.{slice_index}
use Rattle.std.specs.List.{All}
use Rattle.std.proofs.lemmas.List.Elements.{All-head, All-tail}
use Rattle.line_runs.specs.Lines.{without_cr, whole_lines, open_line, last_line, Lines}

-- the whole lines of two pieces
pub whole_lines-append : (begun first second : List ℕ)
    → whole_lines begun (first ++ second) ≡ whole_lines begun first ++ whole_lines (open_line begun first) second
unfolding whole_lines open_line
whole_lines-append begun [] second = refl
whole_lines-append begun (byte ∷ first) second =
    elim (byte == 10) as (λ t. cond t (without_cr begun ∷ whole_lines [] (first ++ second)) (whole_lines (begun ++ byte ∷ []) (first ++ second))
    ≡ cond t (without_cr begun ∷ whole_lines [] first) (whole_lines (begun ++ byte ∷ []) first) ++ whole_lines (cond t (open_line [] first) (open_line (begun ++ byte ∷ []) first)) second) [
      | true ↦ ap (λ lines. without_cr begun ∷ lines) (whole_lines-append [] first second)
      | false ↦ whole_lines-append (begun ++ byte ∷ []) first second
    ]

-- the line that two pieces leave open
pub open_line-append : (begun first second : List ℕ)
    → open_line begun (first ++ second) ≡ open_line (open_line begun first) second
unfolding open_line
open_line-append begun [] second = refl
open_line-append begun (byte ∷ first) second =
    elim (byte == 10) as (λ t. cond t (open_line [] (first ++ second)) (open_line (begun ++ byte ∷ []) (first ++ second))
    ≡ open_line (cond t (open_line [] first) (open_line (begun ++ byte ∷ []) first)) second) [
      | true ↦ open_line-append [] first second
      | false ↦ open_line-append (begun ++ byte ∷ []) first second
    ]

-- the test for an LF fails at another byte
pub not_lf : (byte : ℕ) → byte ≢ 10 → (byte == 10) ≡ false
not_lf byte other = grind arith

-- an LF ends the open line
pub whole_lines-lf : (begun bytes : List ℕ)
    → whole_lines begun (bytes ++ 10 ∷ []) ≡ whole_lines begun bytes ++ without_cr (open_line begun bytes) ∷ []
unfolding whole_lines
whole_lines-lf begun bytes = whole_lines-append begun bytes (10 ∷ [])

-- another byte ends no line
pub whole_lines-other : (begun bytes : List ℕ) (byte : ℕ) → byte ≢ 10
    → whole_lines begun (bytes ++ byte ∷ []) ≡ whole_lines begun bytes
unfolding whole_lines
whole_lines-other begun bytes byte other =
    whole_lines-append begun bytes (byte ∷ []) ∙ rw (not_lf byte other) (append-nil (whole_lines begun bytes))

-- after an LF no line is open
pub open_line-lf : (begun bytes : List ℕ) → open_line begun (bytes ++ 10 ∷ []) ≡ []
unfolding open_line
open_line-lf begun bytes = open_line-append begun bytes (10 ∷ [])

-- another byte goes onto the open line
pub open_line-other : (begun bytes : List ℕ) (byte : ℕ) → byte ≢ 10
    → open_line begun (bytes ++ byte ∷ []) ≡ open_line begun bytes ++ byte ∷ []
unfolding open_line
open_line-other begun bytes byte other = open_line-append begun bytes (byte ∷ []) ∙ rw (not_lf byte other)

-- dropping a CR takes at most one byte
pub without_cr-long : (line : List ℕ) → length line ≤ length (without_cr line) + 1
without_cr-long line =
    elim (slice_index line (length line - 1) == 13) as (λ t. length line ≤ length (cond t (take (length line - 1) line) line) + 1) [
      | true ↦ omega (arith, length-take (length line - 1) line)
      | false ↦ omega arith
    ]

-- bytes without an LF end no line
pub whole_lines-plain : (begun line : List ℕ) → All (λ byte. byte ≢ 10) line → whole_lines begun line ≡ []
unfolding whole_lines
whole_lines-plain begun [] plain = refl
whole_lines-plain begun (byte ∷ line) plain =
    rw (not_lf byte (All-head (λ b. b ≢ 10) byte line plain))
    (whole_lines-plain (begun ++ byte ∷ []) line (All-tail (λ b. b ≢ 10) byte line plain))

-- bytes without an LF all go onto the open line
pub open_line-plain : (begun line : List ℕ) → All (λ byte. byte ≢ 10) line → open_line begun line ≡ begun ++ line
unfolding open_line
open_line-plain begun [] plain = sym (append-nil begun)
open_line-plain begun (byte ∷ line) plain =
    rw (not_lf byte (All-head (λ b. b ≢ 10) byte line plain))
    (open_line-plain (begun ++ byte ∷ []) line (All-tail (λ b. b ≢ 10) byte line plain) ∙ append_assoc begun (byte ∷ []) line)

-- the lines of two pieces
pub Lines-append : (first second : List ℕ)
    → Lines (first ++ second)
    ≡ whole_lines [] first ++ whole_lines (open_line [] first) second ++ last_line (open_line (open_line [] first) second)
Lines-append first second = rw (whole_lines-append [] first second, open_line-append [] first second) refl

-- a line and its LF, before what follows
pub Lines-one : (line bytes : List ℕ) → All (λ byte. byte ≢ 10) line
    → Lines (line ++ 10 ∷ bytes) ≡ without_cr line ∷ Lines bytes
unfolding whole_lines open_line
Lines-one line bytes plain =
    rw (Lines-append line (10 ∷ bytes), whole_lines-plain [] line plain, open_line-plain [] line plain) refl

-- a line that the end of the stream ends
pub Lines-last : (line : List ℕ) → All (λ byte. byte ≢ 10) line → Lines line ≡ last_line line
Lines-last line plain = rw (whole_lines-plain [] line plain, open_line-plain [] line plain) refl
