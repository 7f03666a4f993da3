-- The lines of a piece, one after another: what stands before each LF that a search finds.
use Rattle.std.proofs.Common.{◌≡◌, ◌≢◌, ℕ, List, [], ◌∷◌, ◌++◌, refl, ap, sym, subst, ◌∙◌, append-nil, ◌≤◌, ◌<◌, ◌+◌, length, take, drop, get_or, arith, eq-eqb, length-drop}
use Rattle.std.specs.Prelude.{All}
use Rattle.std.proofs.lemmas.Bool.{eqb-true}
use Rattle.std.proofs.lemmas.Grind.{get_or_default_zero}
use Rattle.std.proofs.lemmas.List.{take_more, take_all, length-take-le, get_or-take, get_or-drop}
use Rattle.std.proofs.Math.Seq.{take-add}
use Rattle.memchr.specs.Find.{Nowhere, NoneBefore, Passes, is_byte}
use Rattle.line_runs.specs.Lines.{without_cr, whole_lines, open_line}
use Rattle.line_runs.proofs.LineLemmas.{whole_lines-append, open_line-append, whole_lines-lf, whole_lines-plain, open_line-plain}

-- where a search up to some place found no LF, there is none
plain_up_to : (bytes : List ℕ) (len : ℕ) → len ≤ length bytes → Nowhere (Passes (is_byte 10) bytes) 0 len → All (λ byte. byte ≢ 10) (take len bytes)
plain_up_to bytes len within none k d lt e =
    let size = length-take-le len bytes within in
    let below : k < len = omega (arith, lt, size) in
    let inside : k < length bytes = omega arith in
    let same : get_or (take len bytes) k d ≡ get_or bytes k 0 = get_or-take len bytes k d below ∙ get_or_default_zero bytes k d inside in
    none k (omega arith) below (eq-eqb (get_or bytes k 0) 10 (sym same ∙ e))

-- What a search from `start` says of a piece: the bytes up to the LF at `start + len` have no LF.
pub record Segment (piece : List ℕ) (start len : ℕ) : Type 0 where
  pub plain : All (λ byte. byte ≢ 10) (take len (drop start piece))
  pub next : take (start + len + 1) piece ≡ (take start piece ++ take len (drop start piece)) ++ 10 ∷ []
  pub within : start + len < length piece

pub segment_found : (piece : List ℕ) (start len : ℕ) → start ≤ length piece
    → NoneBefore (Passes (is_byte 10) (drop start piece)) 0 (length (drop start piece)) len × Passes (is_byte 10) (drop start piece) len
    → Segment piece start len
segment_found piece start len h found =
    let size = length-drop start piece in
    let low : len < length (drop start piece) = found.0.high in
    let inside : start + len < length piece = omega (arith, low, size) in
    let lf : get_or piece (start + len) 0 ≡ 10 = sym (get_or-drop start piece len 0) ∙ eqb-true (get_or (drop start piece) len 0) 10 found.1 in
    record {
      plain = plain_up_to (drop start piece) len (omega arith) found.0.before;
      next = take_more piece (start + len) 0 inside ∙ ap (λ (front : List ℕ). front ++ get_or piece (start + len) 0 ∷ []) (take-add start len piece)
          ∙ ap (λ byte. (take start piece ++ take len (drop start piece)) ++ byte ∷ []) lf;
      within = inside;
    }

-- where no LF follows, the rest is plain
pub rest_is_plain : (piece : List ℕ) (start : ℕ) → Nowhere (Passes (is_byte 10) (drop start piece)) 0 (length (drop start piece)) → All (λ byte. byte ≢ 10) (drop start piece)
rest_is_plain piece start none =
    subst (All (λ byte. byte ≢ 10)) (take_all (length (drop start piece)) (drop start piece) (omega arith))
    (plain_up_to (drop start piece) (length (drop start piece)) (omega arith) none)

-- ---- the lines, where `begun` is open before the piece

-- an LF ends the line that was open and the bytes before it
pub whole_lines-segment : (begun front segment : List ℕ) → All (λ byte. byte ≢ 10) segment
    → whole_lines begun ((front ++ segment) ++ 10 ∷ []) ≡ whole_lines begun front ++ without_cr (open_line begun front ++ segment) ∷ []
whole_lines-segment begun front segment plain =
    whole_lines-lf begun (front ++ segment)
    ∙ rw (whole_lines-append begun front segment, open_line-append begun front segment, whole_lines-plain (open_line begun front) segment plain, open_line-plain (open_line begun front) segment plain, append-nil (whole_lines begun front)) refl

pub whole_lines-rest : (begun front rest : List ℕ) → All (λ byte. byte ≢ 10) rest → whole_lines begun (front ++ rest) ≡ whole_lines begun front
whole_lines-rest begun front rest plain =
    rw (whole_lines-append begun front rest, whole_lines-plain (open_line begun front) rest plain, append-nil (whole_lines begun front)) refl

pub open_line-rest : (begun front rest : List ℕ) → All (λ byte. byte ≢ 10) rest → open_line begun (front ++ rest) ≡ open_line begun front ++ rest
open_line-rest begun front rest plain =
    rw (open_line-append begun front rest, open_line-plain (open_line begun front) rest plain) refl
