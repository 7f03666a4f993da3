-- How a run of the program ends.
use Rattle.std.proofs.Common.{◌≡◌, ◌≢◌, ◌≤◌, ◌++◌, ℕ, true, false, List, [], length, refl, ap, sym, ◌∙◌, subst, arith, true≢false}
use Rattle.std.specs.Prelude.{IsSomeAnd, None, Option, Some, is_some}
use Rattle.io_edge.specs.Causes.{Rose}
use Rattle.io_edge.specs.Shelf.{Files}
use Rattle.io_edge.proofs.KnownLemmas.{Loses-none}
use Rattle.line_runs.specs.Lines.{Lines, WholeLines}
use Rattle.demo_input.specs.Demo.{demo_questions, demo_setup, demo_text}
use Rattle.demo_input.specs.Laws.{QuestionLines}
use Rattle.program_words.specs.declared.options.Options.{Options}
use Rattle.request_machine.specs.State.{State, start_state}
use Rattle.wpinq_program.specs.Outcome.{AskDemo, AskKnownInput, DemoEnds, DemoOutcome, IsComplete, IsStatus, Outcome, OutcomeOf}
use Rattle.wpinq_program.specs.Served.{Moment}
use Rattle.wpinq_program.specs.Shown.{Shown, ShownInPart, quiet_count, reply_count}
use Rattle.wpinq_program.proofs.EndLemmas.{Ends-idle}
use Rattle.wpinq_program.proofs.ServedLemmas.{Served-none}
use Rattle.wpinq_program.proofs.ShownLemmas.{quiet_count-setup}
use Rattle.wpinq_program.proofs.TakenLemmas.{taken_within}

-- ---- the demo

pub DemoEnds-idle : (files : Option Files) (n : ℕ) (m : Moment) → DemoEnds files n m m 5
DemoEnds-idle files n m = record {
  finished = λ e. absurd (omega arith);
  write_fault = λ e. absurd (omega arith);
  idle = λ _. Served-none files m;
  never_read_fault = λ e. absurd (omega arith);
  never_over_limit = λ e. absurd (omega arith);
}

pub DemoEnds-finished : (files : Option Files) (n : ℕ) (a b : Moment) → Shown files a b (quiet_count n) (Lines (demo_text n)) true → DemoEnds files n a b 0
DemoEnds-finished files n a b shown = record {
  finished = λ _. shown;
  write_fault = λ e. absurd (omega arith);
  idle = λ e. absurd (omega arith);
  never_read_fault = λ e. absurd (omega arith);
  never_over_limit = λ e. absurd (omega arith);
}

pub DemoEnds-write_fault : (files : Option Files) (n : ℕ) (a b : Moment) → ShownInPart files a b (quiet_count n) (Lines (demo_text n)) → DemoEnds files n a b 4
DemoEnds-write_fault files n a b shown = record {
  finished = λ e. absurd (omega arith);
  write_fault = λ _. shown;
  idle = λ e. absurd (omega arith);
  never_read_fault = λ e. absurd (omega arith);
  never_over_limit = λ e. absurd (omega arith);
}

-- the demo whose setup is this text
module _ (files : Option Files) (n : ℕ) (setup : List ℕ) (is : setup ≡ demo_setup n) (lines : Lines (demo_text n) ≡ WholeLines (demo_text n))
    (whole : WholeLines (demo_text n) ≡ WholeLines (demo_setup n) ++ WholeLines demo_questions) (questions : QuestionLines)
    (start b : Moment) (stop : State → Moment) (same : stop b.state ≡ b) where
  quiet : reply_count (WholeLines setup) ≡ quiet_count n
  quiet = ap (λ text. reply_count (WholeLines text)) is ∙ sym (quiet_count-setup n (lines ∙ whole) questions.three questions.full)

  text : WholeLines (setup ++ demo_questions) ≡ Lines (demo_text n)
  text = ap (λ front. WholeLines (front ++ demo_questions)) is ∙ sym lines

  pub DemoOutcome-finished : Shown files start b (reply_count (WholeLines setup)) (WholeLines (setup ++ demo_questions)) true → DemoOutcome files n start stop 0
  DemoOutcome-finished shown =
      let all : Shown files start b (quiet_count n) (Lines (demo_text n)) true =
      subst (λ q. Shown files start b q (Lines (demo_text n)) true) quiet (subst (λ ls. Shown files start b (reply_count (WholeLines setup)) ls true) text shown) in
      record { state = b.state; ends = rw same (DemoEnds-finished files n start b all) }

  pub DemoOutcome-write_fault : ShownInPart files start b (reply_count (WholeLines setup)) (WholeLines (setup ++ demo_questions)) → DemoOutcome files n start stop 4
  DemoOutcome-write_fault shown =
      let some : ShownInPart files start b (quiet_count n) (Lines (demo_text n)) =
      subst (λ q. ShownInPart files start b q (Lines (demo_text n))) quiet (subst (λ ls. ShownInPart files start b (reply_count (WholeLines setup)) ls) text shown) in
      record { state = b.state; ends = rw same (DemoEnds-write_fault files n start b some) }

-- ---- nothing was begun

OutcomeOf-idle : (files : Option Files) (asked : Option ℕ) (options : Options) (left : Option (List ℕ)) (start : State → Moment) → OutcomeOf files asked options left left start start 5
OutcomeOf-idle files (Some n) options left start = (refl, record { state = start_state true; ends = DemoEnds-idle files n (start (start_state true)) })
OutcomeOf-idle files None options left start = record {
  taken = [];
  state = start_state options.curator;
  left = Loses-none left;
  ends = Ends-idle files options.max_bytes left (start (start_state options.curator));
}

-- for want of memory
pub Outcome-idle : (files : Option Files) (words : Option Options) (left : Option (List ℕ)) (start : State → Moment) → Outcome files words left left start start 5
Outcome-idle files None left start = (refl, λ state. Served-none files (start state))
Outcome-idle files (Some options) left start = OutcomeOf-idle files options.demo options left start

-- ---- without faults the run comes to its end

done_or_no_memory : (status : ℕ) → IsStatus status → status ≢ 2 → status ≢ 3 → status ≢ 4 → status ≢ 6 → IsComplete status
done_or_no_memory status is two three four six = grind arith

demo_of : (files : Option Files) (asked : Option ℕ) (options : Options) (before after : Option (List ℕ)) (start stop : State → Moment) (status write_before write_now : ℕ)
    → OutcomeOf files asked options before after start stop status → is_some asked ≡ true → IsStatus status → status ≢ 2
    → (status ≡ 4 → Rose write_before write_now) → ¬ Rose write_before write_now → IsComplete status
demo_of files None options before after start stop status wb wn o some is two four no_write = absurd (true≢false (sym some))
demo_of files (Some n) options before after start stop status wb wn o some is two four no_write =
    done_or_no_memory status is two o.1.ends.never_read_fault (λ e. no_write (four e)) o.1.ends.never_over_limit

-- a demo
pub Outcome-demo_complete : (files : Option Files) (words : Option Options) (before after : Option (List ℕ)) (start stop : State → Moment) (status write_before write_now : ℕ)
    → Outcome files words before after start stop status → AskDemo words → IsStatus status → status ≢ 2
    → (status ≡ 4 → Rose write_before write_now) → ¬ Rose write_before write_now → IsComplete status
Outcome-demo_complete files None before after start stop status wb wn o ask is two four no_write = absurd ask
Outcome-demo_complete files (Some options) before after start stop status wb wn o ask is two four no_write =
    demo_of files options.demo options before after start stop status wb wn o ask is two four no_write

input_of : (files : Option Files) (asked : Option ℕ) (options : Options) (before after : Option (List ℕ)) (start stop : State → Moment) (status read_before read_now write_before write_now : ℕ)
    → OutcomeOf files asked options before after start stop status → is_some asked ≡ false
    → IsSomeAnd before (λ bytes. length bytes ≤ options.max_bytes) → IsStatus status → status ≢ 2
    → (status ≡ 3 → Rose read_before read_now) → (status ≡ 4 → Rose write_before write_now)
    → ¬ Rose read_before read_now → ¬ Rose write_before write_now → IsComplete status
input_of files (Some n) options before after start stop status rb rn wb wn o none fits is two three four no_read no_write = absurd (true≢false none)
input_of files None options None after start stop status rb rn wb wn o none fits is two three four no_read no_write = absurd fits
input_of files None options (Some bytes) after start stop status rb rn wb wn o none fits is two three four no_read no_write =
    let within = taken_within bytes o.taken after o.left in
    done_or_no_memory status is two (λ e. no_read (three e)) (λ e. no_write (four e))
    (λ e. let over = o.ends.limit.0 e in absurd (omega (arith, over, within, fits)))

-- an input within the limit
pub Outcome-complete : (files : Option Files) (words : Option Options) (before after : Option (List ℕ)) (start stop : State → Moment) (status read_before read_now write_before write_now : ℕ)
    → Outcome files words before after start stop status → AskKnownInput words before → IsStatus status → status ≢ 2
    → (status ≡ 3 → Rose read_before read_now) → (status ≡ 4 → Rose write_before write_now)
    → ¬ Rose read_before read_now → ¬ Rose write_before write_now → IsComplete status
Outcome-complete files None before after start stop status rb rn wb wn o ask is two three four no_read no_write = absurd ask
Outcome-complete files (Some options) before after start stop status rb rn wb wn o ask is two three four no_read no_write =
    input_of files options.demo options before after start stop status rb rn wb wn o ask.0 ask.1 is two three four no_read no_write
