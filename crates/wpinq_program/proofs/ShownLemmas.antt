-- Lines of which only the last replies are written.
use Rattle.std.proofs.Common.{◌≡◌, ℕ, Bool, true, false, List, [], ◌∷◌, ◌++◌, refl, ap, sym, ◌∙◌, append_assoc, ◌<◌, ◌+◌, ◌-◌, cond, length, drop, arith}
use Rattle.std.specs.Prelude.{Option, All, Err, Ok, Result, nat_lt}
use Rattle.std.proofs.lemmas.Bool.{lt-ltb}
use Rattle.std.proofs.lemmas.List.{drop_at}
use Rattle.std.proofs.lemmas.List.Elements.{All-head, All-tail}
use Rattle.std.proofs.lemmas.List.Sums.{sum_by-append, sum_by-cons}
use Rattle.io_edge.specs.Shelf.{Files}
use Rattle.line_runs.specs.Lines.{Lines, WholeLines}
use Rattle.demo_input.specs.Demo.{demo_questions, demo_setup, demo_text}
use Rattle.wpinq_program.specs.Served.{Moment, PieceServed, Ran, Served, Wrote}
use Rattle.wpinq_program.specs.Shown.{LinesShown, Shown, quiet_count, reply_count}
use Rattle.wpinq_program.proofs.RanLemmas.{Ran-append, Ran-counted}

-- replies that nobody sees, before those that are written
module _ (files : Option Files) (a b c : Moment) (first : List (List ℕ)) (hidden : List (List ℕ)) (ran : Ran files a b first hidden) (silent : a.written ≡ b.written) where
  wrote_behind : (replies : List (List ℕ)) (all : Bool) → Wrote b c replies all → Wrote a c (drop (reply_count first) (hidden ++ replies)) all
  wrote_behind replies all w =
      rw (drop_at hidden replies (reply_count first) (Ran-counted files a b first hidden ran))
      record { text = w.text; put = rw silent w.put; whole = w.whole }

  pub Shown-after : (second : List (List ℕ)) (all : Bool) → Served files b c second all → Shown files a c (reply_count first) (first ++ second) all
  Shown-after second all s = record {
    replies = hidden ++ s.replies;
    ran = Ran-append files a b c first second hidden s.replies ran s.ran;
    wrote = wrote_behind s.replies all s.wrote;
  }

  pub LinesShown-after : {E : Type 0} (result : Result (Unit {0}) E) (second : List (List ℕ)) → PieceServed files result b c second
      → LinesShown files result a c (reply_count first) (first ++ second)
  LinesShown-after (Ok done) second s = Shown-after second true s
  LinesShown-after (Err e) second s = record {
    done = first ++ s.done;
    rest = s.rest;
    front = ap (λ lines. first ++ lines) s.front ∙ sym (append_assoc first s.done s.rest);
    shown = Shown-after s.done false s.served;
  }

-- ---- the demo

reply_count-full : (lines : List (List ℕ)) → All (λ line. 0 < length line) lines → reply_count lines ≡ length lines
reply_count-full [] full = refl
reply_count-full (line ∷ lines) full =
    let here : nat_lt 0 (length line) ≡ true = lt-ltb 0 (length line) (All-head (λ l. 0 < length l) line lines full) in
    let rest = reply_count-full lines (All-tail (λ l. 0 < length l) line lines full) in
    rw (sum_by-cons (λ l. cond (nat_lt 0 (length l)) 1 0) line lines, here, rest) (omega arith)

count_less : (all first second n : ℕ) → all ≡ first + second → second ≡ n → all - n ≡ first
count_less all first second n e three = omega arith

-- the replies to a demo's setup are all but its last three
pub quiet_count-setup : (n : ℕ) → Lines (demo_text n) ≡ WholeLines (demo_setup n) ++ WholeLines demo_questions
    → length (WholeLines demo_questions) ≡ 3 → All (λ line. 0 < length line) (WholeLines demo_questions)
    → quiet_count n ≡ reply_count (WholeLines (demo_setup n))
quiet_count-setup n lines three full =
    count_less (reply_count (Lines (demo_text n))) (reply_count (WholeLines (demo_setup n))) (reply_count (WholeLines demo_questions)) 3
    (ap reply_count lines ∙ sum_by-append (λ l. cond (nat_lt 0 (length l)) 1 0) (WholeLines (demo_setup n)) (WholeLines demo_questions))
    (reply_count-full (WholeLines demo_questions) full ∙ three)
