-- How a run of the input ends, by its status.
use Rattle.std.proofs.Common.{◌≡◌, ℕ, true, false, List, [], ◌++◌, refl, append-nil, ◌≤◌, length, length-append, arith}
use Rattle.std.specs.Prelude.{Option}
use Rattle.std.proofs.lemmas.List.{take_at}
use Rattle.io_edge.specs.Known.{IsUsedUp}
use Rattle.io_edge.specs.Shelf.{Files}
use Rattle.io_edge.proofs.KnownLemmas.{Loses-none}
use Rattle.line_runs.specs.Lines.{whole_lines, open_line, last_line, Lines, WholeLines}
use Rattle.request_machine.specs.State.{State}
use Rattle.wpinq_program.specs.Limits.{kept_of}
use Rattle.wpinq_program.specs.Outcome.{Ends, InputOutcome}
use Rattle.wpinq_program.specs.Served.{Moment, Served, ServedInPart}
use Rattle.wpinq_program.specs.Stream.{Streamed}
use Rattle.wpinq_program.specs.declared.stop.Stop.TheVariants.{InputEnd, ReadFault, WriteFault, OverLimit}
use Rattle.wpinq_program.proofs.ServedLemmas.{Served-none, Served-append, ServedInPart-more, ServedInPart-of}

-- nothing was taken or served
pub Ends-idle : (files : Option Files) (max : ℕ) (left : Option (List ℕ)) (m : Moment) → Ends files max [] left m m 5
Ends-idle files max left m = record {
  finished = λ e. absurd (omega arith);
  read_fault = λ e. absurd (omega arith);
  write_fault = λ e. absurd (omega arith);
  over_limit = λ e. absurd (omega arith);
  limit = (λ e. absurd (omega arith), λ over. absurd (omega arith));
  idle = λ _. (refl, Served-none files m);
}

pub Ends-finished : (files : Option Files) (max : ℕ) (taken : List ℕ) (left : Option (List ℕ)) (a b c : Moment) → length taken ≤ max → IsUsedUp left
    → Served files a b (WholeLines taken) true → Served files b c (last_line (open_line [] taken)) true → Ends files max taken left a c 0
Ends-finished files max taken left a b c fits up lines last = record {
  finished = λ _. (up, Served-append files a b c (whole_lines [] taken) (last_line (open_line [] taken)) true lines last);
  read_fault = λ e. absurd (omega arith);
  write_fault = λ e. absurd (omega arith);
  over_limit = λ e. absurd (omega arith);
  limit = (λ e. absurd (omega arith), λ over. absurd (omega (arith, over, fits)));
  idle = λ e. absurd (omega arith);
}

pub Ends-read_fault : (files : Option Files) (max : ℕ) (taken : List ℕ) (left : Option (List ℕ)) (a b : Moment) → length taken ≤ max
    → Served files a b (WholeLines taken) true → Ends files max taken left a b 3
Ends-read_fault files max taken left a b fits lines = record {
  finished = λ e. absurd (omega arith);
  read_fault = λ _. lines;
  write_fault = λ e. absurd (omega arith);
  over_limit = λ e. absurd (omega arith);
  limit = (λ e. absurd (omega arith), λ over. absurd (omega (arith, over, fits)));
  idle = λ e. absurd (omega arith);
}

pub Ends-write_fault : (files : Option Files) (max : ℕ) (taken : List ℕ) (left : Option (List ℕ)) (a b : Moment) → length taken ≤ max
    → ServedInPart files a b (Lines taken) → Ends files max taken left a b 4
Ends-write_fault files max taken left a b fits lines = record {
  finished = λ e. absurd (omega arith);
  read_fault = λ e. absurd (omega arith);
  write_fault = λ _. lines;
  over_limit = λ e. absurd (omega arith);
  limit = (λ e. absurd (omega arith), λ over. absurd (omega (arith, over, fits)));
  idle = λ e. absurd (omega arith);
}

pub Ends-over_limit : (files : Option Files) (max : ℕ) (taken more : List ℕ) (left : Option (List ℕ)) (a b : Moment) → length taken ≡ max → length more ≡ 1
    → Served files a b (WholeLines taken) true → Ends files max (taken ++ more) left a b 6
Ends-over_limit files max taken more left a b full one lines = record {
  finished = λ e. absurd (omega arith);
  read_fault = λ e. absurd (omega arith);
  write_fault = λ e. absurd (omega arith);
  over_limit = λ _. rw (take_at taken more max full) lines;
  limit = (λ _. omega (arith, length-append taken more), λ over. refl);
  idle = λ e. absurd (omega arith);
}

-- ---- the outcome, by why the stream stopped

pub InputOutcome-idle : (files : Option Files) (max : ℕ) (left : Option (List ℕ)) (start : Moment) (stop : State → Moment) → stop start.state ≡ start
    → InputOutcome files max left left start stop 5
InputOutcome-idle files max left start stop same =
    record { taken = []; state = start.state; left = Loses-none left; ends = rw same (Ends-idle files max left start) }

pub InputOutcome-read_fault : (files : Option Files) (max : ℕ) (before after : Option (List ℕ)) (start b : Moment) (stop : State → Moment) (begun : List ℕ) → stop b.state ≡ b
    → Streamed files max before after start b begun ReadFault → InputOutcome files max before after start stop 3
InputOutcome-read_fault files max before after start b stop begun same s = record {
  taken = s.taken;
  state = b.state;
  left = rw (s.ends.0, append-nil) at s.left;
  ends = rw same (Ends-read_fault files max s.taken after start b s.fits s.ends.1);
}

-- the whole lines of what was taken come first among its lines
write_fault_lines : (files : Option Files) (start b : Moment) (taken : List ℕ) → ServedInPart files start b (WholeLines taken) → ServedInPart files start b (Lines taken)
write_fault_lines files start b taken served = ServedInPart-more files start b (whole_lines [] taken) (last_line (open_line [] taken)) served

pub InputOutcome-write_fault : (files : Option Files) (max : ℕ) (before after : Option (List ℕ)) (start b : Moment) (stop : State → Moment) (begun : List ℕ) → stop b.state ≡ b
    → Streamed files max before after start b begun WriteFault → InputOutcome files max before after start stop 4
InputOutcome-write_fault files max before after start b stop begun same s = record {
  taken = s.taken;
  state = b.state;
  left = rw (s.ends.0, append-nil) at s.left;
  ends = rw same (Ends-write_fault files max s.taken after start b s.fits (write_fault_lines files start b s.taken s.ends.1));
}

pub InputOutcome-over_limit : (files : Option Files) (max : ℕ) (before after : Option (List ℕ)) (start b : Moment) (stop : State → Moment) (begun : List ℕ) → stop b.state ≡ b
    → Streamed files max before after start b begun OverLimit → InputOutcome files max before after start stop 6
InputOutcome-over_limit files max before after start b stop begun same s = record {
  taken = s.taken ++ s.more;
  state = b.state;
  left = s.left;
  ends = rw same (Ends-over_limit files max s.taken s.more after start b s.ends.1 s.ends.0 s.ends.2);
}

pub InputOutcome-finished : (files : Option Files) (max : ℕ) (before after : Option (List ℕ)) (start b c : Moment) (stop : State → Moment) (begun : List ℕ) → stop c.state ≡ c
    → Streamed files max before after start b begun InputEnd → ((line : List ℕ) → begun ≡ kept_of line → Served files b c (last_line line) true)
    → InputOutcome files max before after start stop 0
InputOutcome-finished files max before after start b c stop begun same s last = record {
  taken = s.taken;
  state = c.state;
  left = rw (s.ends.0, append-nil) at s.left;
  ends = rw same (Ends-finished files max s.taken after start b c s.fits s.ends.1 s.ends.2 (last (open_line [] s.taken) s.ends.3));
}

-- the reply to the last line wasn't all written
pub InputOutcome-last_cut : (files : Option Files) (max : ℕ) (before after : Option (List ℕ)) (start b c : Moment) (stop : State → Moment) (begun : List ℕ) → stop c.state ≡ c
    → Streamed files max before after start b begun InputEnd → ((line : List ℕ) → begun ≡ kept_of line → Served files b c (last_line line) false)
    → InputOutcome files max before after start stop 4
InputOutcome-last_cut files max before after start b c stop begun same s last =
    let served = Served-append files start b c (whole_lines [] s.taken) (last_line (open_line [] s.taken)) false s.ends.2 (last (open_line [] s.taken) s.ends.3) in
    record {
      taken = s.taken;
      state = c.state;
      left = rw (s.ends.0, append-nil) at s.left;
      ends = rw same (Ends-write_fault files max s.taken after start c s.fits (ServedInPart-of files start c (Lines s.taken) served));
    }
