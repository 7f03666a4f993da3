use Rattle.std.proofs.Common.{true, refl, ◌∙◌}
use Rattle.request_machine.specs.State.{start_state}
use Rattle.wpinq_program.proofs.OutcomeLemmas.{DemoEnds-idle, DemoOutcome-finished, DemoOutcome-write_fault}
use Rattle.wpinq_program.proofs.demo.run_demo.Goals as goal
use Rattle.wpinq_program.proofs.demo.run_demo.Goals.{in-Ok-served, in-Err}

pub returns-in_default-clause-outcome : goal.returns-in_default-clause-outcome
returns-in_default-clause-outcome g c =
    rw c.before_any_line.ensures (record { state = start_state true; ends = DemoEnds-idle _ c.args.n _ })

pub returns-clause-outcome : goal.returns-clause-outcome
returns-clause-outcome g c =
    let n = c.args.n in
    let e = c.in-Ok.ensures in
    let law = c.law_demo.ensures in
    let setup = c.deref.ensures.value ∙ e.setup in
    elim c.match-served.branch [
      | in-Ok-served w ↦
          rw w.status-is (DemoOutcome-finished _ n _ setup (law.lines n) (law.whole n) law.questions _ _ _ refl
          (rw (e.lines, e.state) at w.in-Ok-served.ensures.shown))
      | in-Err w ↦
          rw w.status-is (DemoOutcome-write_fault _ n _ setup (law.lines n) (law.whole n) law.questions _ _ _ refl
          (rw (e.lines, e.state) at w.in-Err.ensures.shown))
    ]
