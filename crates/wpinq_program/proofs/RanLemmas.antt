-- What a run over several lines comes to.
use Rattle.std.proofs.Common.{◌≡◌, ℤ, ℕ, List, [], ◌∷◌, ◌++◌, refl, ◌<◌, ◌+◌, length, length-append, arith, subst, inl, inr}
use Rattle.std.specs.Prelude.{Option}
use Rattle.io_edge.specs.Known.{Gains}
use Rattle.io_edge.specs.Shelf.{Files}
use Rattle.io_edge.proofs.KnownLemmas.{Gains-none, Gains-append}
use Rattle.line_runs.specs.Lines.{without_cr}
use Rattle.line_runs.specs.Runs.{Run}
use Rattle.line_runs.proofs.LineLemmas.{without_cr-long}
use Rattle.line_runs.proofs.RunLemmas.{Run-nil, Run-append, Run-counted, Run-silent_from, Run-one_from, Run-same}
use Rattle.request_machine.specs.Limits.{max_line}
use Rattle.request_machine.specs.Machine.{Answers, file_line, noise_line}
use Rattle.request_machine.specs.State.{State}
use Rattle.request_machine.proofs.MachineLemmas.{Answers-overlong}
use Rattle.wpinq_program.specs.Faults.{RoseBy, file_replies, noise_replies}
use Rattle.wpinq_program.specs.Limits.{kept_of}
use Rattle.wpinq_program.specs.Served.{Moment, Ran}
use Rattle.wpinq_program.specs.Shown.{reply_count}
use Rattle.wpinq_program.proofs.FaultLemmas.{RoseBy-append, RoseBy-none}
use Rattle.wpinq_program.proofs.LineLemmas.{kept_is_long, kept_whole, short_or_long}

pub Ran-none : (files : Option Files) (m : Moment) → Ran files m m [] []
Ran-none files m =
    record {
      given = [];
      run = Run-nil (Answers files) m.state;
      drawn = Gains-none m.given;
      count = omega arith;
      noise = RoseBy-none noise_line m.noise_faults;
      shelf = RoseBy-none file_line m.shelf_faults;
    }

-- an empty line
pub Ran-empty : (files : Option Files) (m : Moment) → Ran files m m ([] ∷ []) []
Ran-empty files m = record {
  given = [];
  run = Run-silent_from (Answers files) m.state m.state [] [] (refl, refl, refl);
  drawn = Gains-none m.given;
  count = omega arith;
  noise = RoseBy-none noise_line m.noise_faults;
  shelf = RoseBy-none file_line m.shelf_faults;
}

pub Ran-append : (files : Option Files) (a b c : Moment) (first second replies more : List (List ℕ)) → Ran files a b first replies → Ran files b c second more
    → Ran files a c (first ++ second) (replies ++ more)
Ran-append files a b c first second replies more p q = record {
  given = p.given ++ q.given;
  run = Run-append (Answers files) a.state b.state c.state first second p.given q.given replies more p.run q.run;
  drawn = Gains-append a.given b.given c.given p.given q.given p.drawn q.drawn;
  count = omega (arith, p.count, q.count, length-append replies more);
  noise = RoseBy-append noise_line a.noise_faults b.noise_faults c.noise_faults replies more p.noise q.noise;
  shelf = RoseBy-append file_line a.shelf_faults b.shelf_faults c.shelf_faults replies more p.shelf q.shelf;
}

-- one line that isn't empty
pub Ran-answered : (files : Option Files) (a b : Moment) (line : List ℕ) (given : List (ℕ × ℤ)) (reply : List ℕ) → 0 < length line
    → Answers files a.state line given reply b.state → Gains a.given b.given given → b.lines ≡ a.lines + 1
    → RoseBy (noise_replies (reply ∷ [])) a.noise_faults b.noise_faults → RoseBy (file_replies (reply ∷ [])) a.shelf_faults b.shelf_faults
    → Ran files a b (line ∷ []) (reply ∷ [])
Ran-answered files a b line given reply some answered drawn count noise shelf = record {
  given = given;
  run = Run-one_from (Answers files) a.state b.state line given (reply ∷ []) some (reply, refl, answered);
  drawn = drawn;
  count = omega (arith, count);
  noise = noise;
  shelf = shelf;
}

-- the same where something else is known of the sink
pub Ran-over : (files : Option Files) (a b : Moment) (before after : Option (List ℕ)) (lines replies : List (List ℕ)) → Ran files a b lines replies
    → Ran files (record a { written = before }) (record b { written = after }) lines replies
Ran-over files a b before after lines replies r =
    record { given = r.given; run = r.run; drawn = r.drawn; count = r.count; noise = r.noise; shelf = r.shelf }

-- there is a reply to each line that isn't empty
pub Ran-counted : (files : Option Files) (a b : Moment) (lines replies : List (List ℕ)) → Ran files a b lines replies → length replies ≡ reply_count lines
Ran-counted files a b lines replies r = Run-counted (Answers files) a.state b.state lines r.given replies r.run

-- ---- lines of which only the front is kept

run_of_kept : (files : Option Files) (old new : State) (line : List ℕ) (given : List (ℕ × ℤ)) (replies : List (List ℕ))
    → Run (Answers files) old (without_cr (kept_of line) ∷ []) given replies new → Run (Answers files) old (without_cr line ∷ []) given replies new
run_of_kept files old new line given replies run =
    elim (short_or_long line) as (λ _. Run (Answers files) old (without_cr line ∷ []) given replies new) [
      | inl short ↦ subst (λ l. Run (Answers files) old (without_cr l ∷ []) given replies new) (kept_whole line short) run
      | inr long ↦
          let kept = kept_is_long line long in
          let whole : max_line < length (without_cr line) = omega (arith, without_cr-long line, long) in
          Run-same (Answers files) old new (without_cr (kept_of line)) (without_cr line) given replies
          (omega (arith, kept)) (omega (arith, whole))
          (λ state noise reply next a. Answers-overlong files state (without_cr (kept_of line)) (without_cr line) noise reply next kept whole a) run
    ]

-- a line is answered as what is kept of it
pub Ran-kept : (files : Option Files) (a b : Moment) (line kept : List ℕ) (replies : List (List ℕ)) → kept ≡ kept_of line
    → Ran files a b (without_cr kept ∷ []) replies → Ran files a b (without_cr line ∷ []) replies
Ran-kept files a b line kept replies k r = record {
  given = r.given;
  run = run_of_kept files a.state b.state line r.given replies (subst (λ l. Run (Answers files) a.state (without_cr l ∷ []) r.given replies b.state) k r.run);
  drawn = r.drawn;
  count = r.count;
  noise = r.noise;
  shelf = r.shelf;
}
