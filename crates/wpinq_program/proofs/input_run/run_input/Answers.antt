use Rattle.std.proofs.Common.{refl}
use Rattle.wpinq_program.proofs.EndLemmas.{InputOutcome-idle, InputOutcome-read_fault, InputOutcome-write_fault, InputOutcome-over_limit, InputOutcome-finished, InputOutcome-last_cut}
use Rattle.wpinq_program.proofs.input_run.run_input.Goals as goal
use Rattle.wpinq_program.proofs.input_run.run_input.Goals.{in-ReadFault, in-WriteFault, in-OverLimit, in-InputEnd, in-Ok-finish, in-Err}

pub returns-in_default-clause-outcome : goal.returns-in_default-clause-outcome
returns-in_default-clause-outcome g c = rw c.before_any_line.ensures (InputOutcome-idle _ _ _ _ _ refl)

pub returns-clause-outcome : goal.returns-clause-outcome
returns-clause-outcome g c =
    let e = c.in-Ok.ensures in
    elim c.match-stop.branch [
      | in-ReadFault w ↦
          let s = rw (w.in-ReadFault.is, e.lines, e.state) at c.serve_stream-stop.ensures.streamed in
          rw (w.status-is, w.out-is, w.noise-is, w.shelf-is, w.responder-is) (InputOutcome-read_fault _ _ _ _ _ _ _ _ refl s)
      | in-WriteFault w ↦
          let s = rw (w.in-WriteFault.is, e.lines, e.state) at c.serve_stream-stop.ensures.streamed in
          rw (w.status-is, w.out-is, w.noise-is, w.shelf-is, w.responder-is) (InputOutcome-write_fault _ _ _ _ _ _ _ _ refl s)
      | in-OverLimit w ↦
          let s = rw (w.in-OverLimit.is, e.lines, e.state) at c.serve_stream-stop.ensures.streamed in
          rw (w.status-is, w.out-is, w.noise-is, w.shelf-is, w.responder-is) (InputOutcome-over_limit _ _ _ _ _ _ _ _ refl s)
      | in-InputEnd w ↦
          let s = rw (w.in-InputEnd.is, e.lines, e.state) at c.serve_stream-stop.ensures.streamed in
          rw (w.status-is, w.out-is, w.noise-is, w.shelf-is, w.responder-is)
          (elim w.match-finish.branch [
            | in-Ok-finish v ↦ rw v.status-is (InputOutcome-finished _ _ _ _ _ _ _ _ _ refl s (rw c.serve_stream-stop.ensures.files at v.in-Ok-finish.ensures.served))
            | in-Err v ↦ rw v.status-is (InputOutcome-last_cut _ _ _ _ _ _ _ _ _ refl s (rw c.serve_stream-stop.ensures.files at v.in-Err.ensures.served))
          ])
    ]
