use Rattle.std.proofs.Common.{Err, ap, arith, refl}
use Rattle.std.specs.Prelude.{Some}
use Rattle.wpinq_program.proofs.OutcomeLemmas.{Outcome-complete, Outcome-demo_complete, Outcome-idle}
use Rattle.wpinq_program.proofs.ServedLemmas.{Served-none}
use Rattle.wpinq_program.proofs.top.wpinq.Goals as goal

pub run-requires : goal.run-requires
run-requires g c = record {
  name = refl;
  parts = refl;
  some = omega (arith, c.new.ensures);
  limits = c.law_word_values.ensures.limits _ c.in-Ok.options c.in-Ok.ensures.options;
}

pub returns-in-Ok-clause-outcome : goal.returns-in-Ok-clause-outcome
returns-in-Ok-clause-outcome g c = rw c.in-Ok.ensures.options c.run.ensures.outcome

pub returns-in-Err-Faulty-clause-outcome : goal.returns-in-Err-Faulty-clause-outcome
returns-in-Err-Faulty-clause-outcome g c =
    let none = c.in-Err-Faulty.ensures.faulty (ap Err c.in-Err-Faulty.field-0-is) in
    rw (none, c.before_any_line.ensures) (refl, λ state. Served-none _ _)

pub returns-in-Err-Memory-clause-outcome : goal.returns-in-Err-Memory-clause-outcome
returns-in-Err-Memory-clause-outcome g c = rw c.before_any_line-in-Err-Memory.ensures (Outcome-idle _ _ _ _)

pub returns-in-Ok-clause-complete : goal.returns-in-Ok-clause-complete
returns-in-Ok-clause-complete g c = rw c.in-Ok.ensures.options (λ ask no_read no_write.
    let e = c.run.ensures in
    Outcome-complete _ (Some c.in-Ok.options) _ _ _ _ _ _ _ _ _ e.outcome ask e.status e.words e.read_fault e.write_fault no_read no_write)

pub returns-in-Ok-clause-demo_complete : goal.returns-in-Ok-clause-demo_complete
returns-in-Ok-clause-demo_complete g c = rw c.in-Ok.ensures.options (λ ask no_write.
    let e = c.run.ensures in
    Outcome-demo_complete _ (Some c.in-Ok.options) _ _ _ _ _ _ _ e.outcome ask e.status e.words e.write_fault no_write)
