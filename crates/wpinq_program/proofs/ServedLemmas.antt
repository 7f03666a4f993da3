-- What was served, over several lines.
use Rattle.std.proofs.Common.{◌≡◌, ℤ, ℕ, Bool, true, false, List, [], ◌∷◌, ◌++◌, refl, ap, sym, ◌∙◌, append_assoc, append-nil, ◌<◌, ◌+◌, length, take, drop, arith}
use Rattle.std.specs.Prelude.{Option, All, ◌≢◌, MatchResult, Result, is_ok}
use Rattle.std.proofs.lemmas.List.{take-append-drop}
use Rattle.io_edge.specs.declared.failed.Failed.{Failed}
use Rattle.io_edge.specs.Known.{Gains}
use Rattle.io_edge.specs.Shelf.{Files}
use Rattle.line_runs.specs.Lines.{without_cr, whole_lines, open_line, last_line}
use Rattle.line_runs.proofs.LineLemmas.{whole_lines-append, open_line-lf}
use Rattle.request_machine.specs.Machine.{Answers}
use Rattle.wpinq_program.specs.Faults.{RoseBy, file_replies, noise_replies}
use Rattle.wpinq_program.specs.Limits.{kept_of}
use Rattle.wpinq_program.specs.Served.{Moment, Served, ServedInPart}
use Rattle.wpinq_program.proofs.LineLemmas.{kept-extend, none_kept, some_kept}
use Rattle.wpinq_program.proofs.RanLemmas.{Ran-answered, Ran-append, Ran-empty, Ran-kept, Ran-none}
use Rattle.wpinq_program.proofs.Segments.{Segment, whole_lines-segment, whole_lines-rest, open_line-rest}
use Rattle.wpinq_program.proofs.WroteLemmas.{Wrote-append, Wrote-none, Wrote-one}

pub Served-none : (files : Option Files) (m : Moment) → Served files m m [] true
Served-none files m = record { replies = []; ran = Ran-none files m; wrote = Wrote-none m }

-- an empty line
pub Served-empty : (files : Option Files) (m : Moment) → Served files m m ([] ∷ []) true
Served-empty files m = record { replies = []; ran = Ran-empty files m; wrote = Wrote-none m }

pub Served-append : (files : Option Files) (a b c : Moment) (first second : List (List ℕ)) (all : Bool)
    → Served files a b first true → Served files b c second all → Served files a c (first ++ second) all
Served-append files a b c first second all p q = record {
  replies = p.replies ++ q.replies;
  ran = Ran-append files a b c first second p.replies q.replies p.ran q.ran;
  wrote = Wrote-append a b c p.replies q.replies all p.wrote q.wrote;
}

pub ServedInPart-append : (files : Option Files) (a b c : Moment) (first second : List (List ℕ))
    → Served files a b first true → ServedInPart files b c second → ServedInPart files a c (first ++ second)
ServedInPart-append files a b c first second p q = record {
  done = first ++ q.done;
  rest = q.rest;
  front = ap (λ lines. first ++ lines) q.front ∙ sym (append_assoc first q.done q.rest);
  served = Served-append files a b c first q.done false p q.served;
}

-- lines that were served in part, and others that follow them
pub ServedInPart-more : (files : Option Files) (a b : Moment) (lines more : List (List ℕ)) → ServedInPart files a b lines → ServedInPart files a b (lines ++ more)
ServedInPart-more files a b lines more p = record {
  done = p.done;
  rest = p.rest ++ more;
  front = ap (λ l. l ++ more) p.front ∙ append_assoc p.done p.rest more;
  served = p.served;
}

pub ServedInPart-of : (files : Option Files) (a b : Moment) (lines : List (List ℕ)) → Served files a b lines false → ServedInPart files a b lines
ServedInPart-of files a b lines p = record { done = lines; rest = []; front = sym (append-nil lines); served = p }

-- one line that isn't empty
pub Served-answered : (files : Option Files) (a b : Moment) (line : List ℕ) (given : List (ℕ × ℤ)) (reply : List ℕ) (n : ℕ) (result : Result (Unit {0}) Failed)
    → 0 < length line → Answers files a.state line given reply b.state → Gains a.given b.given given → b.lines ≡ a.lines + 1
    → RoseBy (noise_replies (reply ∷ [])) a.noise_faults b.noise_faults → RoseBy (file_replies (reply ∷ [])) a.shelf_faults b.shelf_faults
    → Gains a.written b.written (take n reply) → MatchResult result (λ _. n ≡ length reply) (λ _. n < length reply)
    → Served files a b (line ∷ []) (is_ok result)
Served-answered files a b line given reply n result some answered drawn count noise shelf put whole = record {
  replies = reply ∷ [];
  ran = Ran-answered files a b line given reply some answered drawn count noise shelf;
  wrote = Wrote-one a b reply n result put whole;
}

-- a line was served where what is kept of it was
pub Served-kept : (files : Option Files) (a b : Moment) (line kept : List ℕ) (all : Bool) → kept ≡ kept_of line
    → Served files a b (without_cr kept ∷ []) all → Served files a b (without_cr line ∷ []) all
Served-kept files a b line kept all k s = record { replies = s.replies; ran = Ran-kept files a b line kept s.replies k s.ran; wrote = s.wrote }

-- the last line: there is none, or it is served
pub Served-no_last : (files : Option Files) (a : Moment) (line kept : List ℕ) → kept ≡ kept_of line → length kept ≡ 0 → Served files a a (last_line line) true
Served-no_last files a line kept k none = rw (none_kept line kept k none) (Served-none files a)

last_of : (line : List ℕ) → 0 < length line → last_line line ≡ without_cr line ∷ []
last_of [] some = absurd (omega arith)
last_of (b ∷ line) some = refl

pub Served-last : (files : Option Files) (a b : Moment) (line kept : List ℕ) (all : Bool) → kept ≡ kept_of line → 0 < length kept
    → Served files a b (without_cr kept ∷ []) all → Served files a b (last_line line) all
Served-last files a b line kept all k some s =
    rw (last_of line (some_kept line kept k some)) (Served-kept files a b line kept all k s)

-- ---- the lines of a piece, where `line` is open before it and `begun` is what is kept of the open line

kept_on : (line segment begun kept : List ℕ) → begun ≡ kept_of line → kept ≡ kept_of (begun ++ segment) → kept ≡ kept_of (line ++ segment)
kept_on line segment begun kept k e = e ∙ ap (λ l. kept_of (l ++ segment)) k ∙ kept-extend line segment

-- one more line of the piece
pub Served-next : (files : Option Files) (a b c : Moment) (line piece begun kept : List ℕ) (start len : ℕ) (all : Bool) → Segment piece start len
    → begun ≡ kept_of (open_line line (take start piece)) → kept ≡ kept_of (begun ++ take len (drop start piece))
    → Served files a b (whole_lines line (take start piece)) true → Served files b c (without_cr kept ∷ []) all
    → Served files a c (whole_lines line (take (start + len + 1) piece)) all
Served-next files a b c line piece begun kept start len all s k e before now =
    let front = take start piece in
    let segment = take len (drop start piece) in
    let one = Served-kept files b c (open_line line front ++ segment) kept all (kept_on (open_line line front) segment begun kept k e) now in
    rw (s.next, whole_lines-segment line front segment s.plain)
    (Served-append files a b c (whole_lines line front) (without_cr (open_line line front ++ segment) ∷ []) all before one)

-- one more line of the piece, whose reply wasn't all written
pub ServedInPart-next : (files : Option Files) (a b c : Moment) (line piece begun kept : List ℕ) (start len : ℕ) → Segment piece start len
    → begun ≡ kept_of (open_line line (take start piece)) → kept ≡ kept_of (begun ++ take len (drop start piece))
    → Served files a b (whole_lines line (take start piece)) true → Served files b c (without_cr kept ∷ []) false
    → ServedInPart files a c (whole_lines line piece)
ServedInPart-next files a b c line piece begun kept start len s k e before now =
    let end = start + len + 1 in
    let cut : whole_lines line piece ≡ whole_lines line (take end piece) ++ whole_lines (open_line line (take end piece)) (drop end piece) =
    ap (whole_lines line) (sym (take-append-drop end piece)) ∙ whole_lines-append line (take end piece) (drop end piece) in
    rw cut (ServedInPart-more files a c (whole_lines line (take end piece)) (whole_lines (open_line line (take end piece)) (drop end piece))
    (ServedInPart-of files a c (whole_lines line (take end piece)) (Served-next files a b c line piece begun kept start len false s k e before now)))

-- the open line after one more line of the piece
pub open_line-next : (line piece : List ℕ) (start len : ℕ) → Segment piece start len → open_line line (take (start + len + 1) piece) ≡ []
open_line-next line piece start len s = ap (open_line line) s.next ∙ open_line-lf line (take start piece ++ take len (drop start piece))

-- the rest of the piece has no LF
pub Served-rest : (files : Option Files) (a b : Moment) (line piece : List ℕ) (start : ℕ) → All (λ byte. byte ≢ 10) (drop start piece)
    → Served files a b (whole_lines line (take start piece)) true → Served files a b (whole_lines line piece) true
Served-rest files a b line piece start plain served =
    let same : whole_lines line piece ≡ whole_lines line (take start piece) =
    ap (whole_lines line) (sym (take-append-drop start piece)) ∙ whole_lines-rest line (take start piece) (drop start piece) plain in
    rw same served

pub kept-rest : (line piece begun kept : List ℕ) (start : ℕ) → All (λ byte. byte ≢ 10) (drop start piece)
    → begun ≡ kept_of (open_line line (take start piece)) → kept ≡ kept_of (begun ++ drop start piece)
    → kept ≡ kept_of (open_line line piece)
kept-rest line piece begun kept start plain k e =
    kept_on (open_line line (take start piece)) (drop start piece) begun kept k e
    ∙ ap kept_of (sym (open_line-rest line (take start piece) (drop start piece) plain) ∙ ap (open_line line) (take-append-drop start piece))
