use Rattle.std.proofs.Common.{◌≤◌, ◌+◌, ap, refl, subst, sym, ◌∙◌}
use Rattle.csv_changes.specs.Changes.{FailsCsv}
use Rattle.csv_changes.specs.declared.fault.CsvFault.{CsvFault}
use Rattle.messages.specs.declared.refusal.Refusal.TheVariants as refusal
use Rattle.messages.specs.declared.reply.Reply.{Reply}
use Rattle.messages.specs.declared.reply.Reply.TheVariants as reply
use Rattle.request_machine.specs.State.{State}
use Rattle.request_machine.specs.Updates.{added_at, updated_by}
use Rattle.session_core.specs.Parts.{state_of}
use Rattle.session_core.specs.Work.{outcome_steps, without_plans}
use Rattle.session_core.proofs.ComesTo.{Does-alike, Does-told}
use Rattle.session_core.proofs.parts.Parts.add_read.Goals as goal

pub add-requires-clause-kinds : goal.add-requires-clause-kinds
add-requires-clause-kinds g c = λ source here. rw c.as_slice.ensures (rw c.in-Ok.is at (c.requires.kinds source here))

pub returns-in-Ok-clause-does : goal.returns-in-Ok-clause-does
returns-in-Ok-clause-does g c = λ source here changes gives.
    let old = c.args.self.now in
    let is = rw c.in-Ok.is at gives in
    Does-alike c.add.result old old c.add.new.self (added_at (state_of old) c.args.at source c.as_slice.result.now) (updated_by (state_of old) c.args.at source changes) refl
    (ap (added_at (state_of old) c.args.at source) c.as_slice.ensures ∙ sym (ap (updated_by (state_of old) c.args.at source) is))
    (c.add.ensures.does source here)

pub returns-in-Ok-clause-work : goal.returns-in-Ok-clause-work
returns-in-Ok-clause-work g c = λ source here changes gives.
    let state = state_of c.args.self.now in
    let is = rw c.in-Ok.is at gives in
    subst (λ (outcome : State × Reply). c.add.new.steps ≤ c.args.steps.now + outcome_steps state outcome)
    (ap (added_at (without_plans state) c.args.at source) c.as_slice.ensures ∙ sym (ap (updated_by (without_plans state) c.args.at source) is))
    (c.add.ensures.work source here)

pub returns-in-Err-Bad-clause-does : goal.returns-in-Err-Bad-clause-does
returns-in-Err-Bad-clause-does g c = λ source here changes gives.
    let old = c.args.self.now in
    let told = c.refused in
    let bad = rw c.in-Err-Bad.is at c.in-Err-Bad.field-0-is in
    let failed = subst (λ (fault : CsvFault). FailsCsv fault changes) bad (rw c.in-Err-Bad.is at gives) in
    Does-told old told.result (reply.Refused (refusal.Csv c.in-Err-Bad.at c.in-Err-Bad.what)) (updated_by (state_of old) c.args.at source changes)
    c.requires.settled told.ensures.reply told.ensures.effect (ap (updated_by (state_of old) c.args.at source) failed)

pub returns-in-Err-Memory-clause-does : goal.returns-in-Err-Memory-clause-does
returns-in-Err-Memory-clause-does g c = λ source here changes gives. record { same = refl; done = c.requires.settled }
