-- The front of a line that is kept tells how the line is answered.
use Rattle.std.proofs.Common.{◌≡◌, ℕ, List, [], ◌∷◌, ◌++◌, ap, sym, ◌∙◌, ◌≤◌, ◌<◌, ◌+◌, ◌-◌, min, length, take, arith, refl, lit<}
use Rattle.std.specs.Prelude.{◌⊎◌}
use Rattle.std.proofs.Common.{inl, inr}
use Rattle.std.proofs.lemmas.Bool.{cases_lt}
use Rattle.std.proofs.lemmas.List.{take_all, take_min, length-take-le, take-append-le, length-take}
use Rattle.std.proofs.Math.Seq.{take-append-add}
use Rattle.line_runs.specs.Lines.{without_cr}
use Rattle.line_runs.proofs.LineLemmas.{without_cr-long}
use Rattle.request_machine.specs.Limits.{max_line}
use Rattle.wpinq_program.specs.Limits.{kept_len, kept_of}

-- a line is filled up to n bytes
take-filled : (n k : ℕ) (line more : List ℕ) → length line ≤ n → k ≡ min (length more) (n - length line) → line ++ take k more ≡ take n (line ++ more)
take-filled n k line more within e =
    let room : ℕ = n - length line in
    let sum : length line + room ≡ n = omega arith in
    let count : k ≡ min room (length more) = omega arith in
    ap (λ (t : List ℕ). line ++ t) (ap (λ j. take j more) count ∙ take_min room more) ∙ sym (take-append-add line more room) ∙ ap (λ j. take j (line ++ more)) sum

-- more bytes of a line, of which only the first n are kept
take-extend : (n : ℕ) (line more : List ℕ) → take n (take n line ++ more) ≡ take n (line ++ more)
take-extend n line more = elim (cases_lt n (length line)) as (λ _. take n (take n line ++ more) ≡ take n (line ++ more)) [
  | inr short ↦ ap (λ kept. take n (kept ++ more)) (take_all n line short)
  | inl long ↦
      let full : length (take n line) ≡ n = length-take-le n line (omega arith) in
      let same : n ≤ length (take n line) = omega (arith, full) in
      let within : n ≤ length line = omega arith in
      take-append-le n (take n line) more same ∙ take_all n (take n line) (omega (arith, full)) ∙ sym (take-append-le n line more within)
]

-- ---- what is kept of a line

-- nothing is kept of nothing
pub kept-nil : [] ≡ kept_of []
unfolding kept_of
kept-nil = refl

-- a line is filled up
pub kept-filled : (k : ℕ) (line more : List ℕ) → length line ≤ kept_len → k ≡ min (length more) (kept_len - length line)
    → line ++ take k more ≡ kept_of (line ++ more)
unfolding kept_of
kept-filled k line more within e = take-filled kept_len k line more within e

-- more bytes of a line of which the front is kept
pub kept-extend : (line more : List ℕ) → kept_of (kept_of line ++ more) ≡ kept_of (line ++ more)
unfolding kept_of
kept-extend line more = take-extend kept_len line more

-- a short line is kept whole
pub kept_whole : (line : List ℕ) → length line ≤ kept_len → kept_of line ≡ line
unfolding kept_of
kept_whole line short = take_all kept_len line short

-- what is kept of a line over the limit is over it, also without a CR
pub kept_is_long : (line : List ℕ) → kept_len < length line → max_line < length (without_cr (kept_of line))
unfolding kept_of
kept_is_long line long =
    let kept : length (take kept_len line) ≡ kept_len = length-take-le kept_len line (omega arith) in
    omega (arith, without_cr-long (take kept_len line), kept)

pub short_or_long : (line : List ℕ) → (length line ≤ kept_len) ⊎ (kept_len < length line)
short_or_long line = elim (cases_lt kept_len (length line)) [ inl long ↦ inr long | inr short ↦ inl short ]

none_taken : (n : ℕ) (line kept : List ℕ) → 0 < n → kept ≡ take n line → length kept ≡ 0 → line ≡ []
none_taken n [] kept some k none = refl
none_taken n (b ∷ line) kept some k none = absurd (omega (arith, ap length k, length-take {A = ℕ} n (b ∷ line)))

-- nothing is kept only of an empty line
pub none_kept : (line kept : List ℕ) → kept ≡ kept_of line → length kept ≡ 0 → line ≡ []
unfolding kept_of
none_kept line kept k none = none_taken kept_len line kept (lit< tt) k none

some_taken : (n : ℕ) (line kept : List ℕ) → kept ≡ take n line → 0 < length kept → 0 < length line
some_taken n line kept k some = omega (arith, ap length k, length-take {A = ℕ} n line)

pub some_kept : (line kept : List ℕ) → kept ≡ kept_of line → 0 < length kept → 0 < length line
unfolding kept_of
some_kept line kept k some = some_taken kept_len line kept k some
