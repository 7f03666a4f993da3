use Rattle.std.proofs.Common.{◌≤◌, ◌+◌, ◌*◌, List, length, Ok, ap, arith, refl, subst, sym, true≢false, ◌∙◌}
use Rattle.request_machine.specs.Declarations.{declared, dropped, planned, sum_reply}
use Rattle.request_machine.specs.LookUps.{exact_reply}
use Rattle.request_machine.specs.Measures.{budget_reply}
use Rattle.request_machine.specs.Stages.{Told}
use Rattle.request_machine.specs.State.{new_plan, new_source}
use Rattle.session_core.specs.Parts.{state_of}
use Rattle.std.proofs.lemmas.Result.{err_from_is_err_and}
use Rattle.session_core.proofs.AnswerLemmas.{Responds-answer, Responds-told}
use Rattle.session_core.proofs.ComesTo.{Does-kept}
use Rattle.session_core.proofs.Fetched.{FetchesAnd-any, FetchesAnd-nothing}
use Rattle.session_core.proofs.Measuring.{Responds-none}
use Rattle.session_core.proofs.parts.Parts.perform.Goals as goal

pub returns-in-Sum-clause-responds : goal.returns-in-Sum-clause-responds
returns-in-Sum-clause-responds g c =
    let state = state_of c.args.self.now in
    rw c.in-Sum.is (FetchesAnd-nothing _ _ _ _ refl (Responds-answer _ _ c.args.self.now c.told.result c.sum_reply.result (Told state (sum_reply c.in-Sum.weights)) c.requires.settled c.told.ensures.reply c.told.ensures.effect (ap (Told state) (sym (c.sum_reply.ensures ∙ ap sum_reply c.as_slice-in-Sum.ensures))), omega arith))

pub returns-in-Source-clause-responds : goal.returns-in-Source-clause-responds
returns-in-Source-clause-responds g c =
    let old = c.args.self.now in
    rw c.in-Source.is (FetchesAnd-nothing _ _ _ _ refl (Responds-told _ _ (Ok c.declare.result) old old (declared (state_of old) (new_source c.in-Source.name c.in-Source.kinds c.in-Source.signed c.in-Source.budget)) (record { same = refl; done = c.declare.ensures }), omega arith))

pub returns-in-Update-clause-responds : goal.returns-in-Update-clause-responds
returns-in-Update-clause-responds g c = rw c.in-Update.is (FetchesAnd-nothing _ _ _ _ refl (Responds-told _ _ c.update.result c.args.self.now c.update.new.self _ c.update.ensures.does, c.update.ensures.work))

pub returns-in-Load-clause-responds : goal.returns-in-Load-clause-responds
returns-in-Load-clause-responds g c =
    let l = c.load.ensures.loaded in
    rw c.in-Load.is (record {
      fetched = l.fetched;
      may_fetch = l.may_fetch;
      later = l.later;
      failed = l.failed;
      holds = (Responds-told _ _ c.load.result c.args.self.now c.load.new.self _ l.holds.0, l.holds.1);
    })

pub returns-in-Load-clause-untouched : goal.returns-in-Load-clause-untouched
returns-in-Load-clause-untouched g c = rw c.in-Load.is (λ e. absurd (true≢false e))

pub returns-in-Measure-clause-responds : goal.returns-in-Measure-clause-responds
returns-in-Measure-clause-responds g c = rw c.in-Measure.is (FetchesAnd-nothing _ _ _ _ refl (rw (sym c.as_slice.ensures) (c.measure.ensures.responds, c.measure.ensures.work)))

pub returns-in-Plan-clause-responds : goal.returns-in-Plan-clause-responds
returns-in-Plan-clause-responds g c =
    let old = c.args.self.now in
    rw c.in-Plan.is (FetchesAnd-nothing _ _ _ _ refl (Responds-told _ _ c.plan.result old old (planned (state_of old) (new_plan c.in-Plan.name c.in-Plan.plan)) (Does-kept c.plan.result old _ c.requires.settled c.plan.ensures), tt))

pub returns-in-Drop-clause-responds : goal.returns-in-Drop-clause-responds
returns-in-Drop-clause-responds g c =
    let old = c.args.self.now in
    rw c.in-Drop.is (FetchesAnd-nothing _ _ _ _ refl (Responds-told _ _ (Ok c.drop_plan.result) old old (dropped (state_of old) c.in-Drop.plan) (record { same = refl; done = c.drop_plan.ensures }), omega arith))

pub returns-in_err-answer-in-Exact-clause-responds : goal.returns-in_err-answer-in-Exact-clause-responds
returns-in_err-answer-in-Exact-clause-responds g c =
    let p = err_from_is_err_and c.from_residual.result c.from_residual.ensures.1 in
    rw (p.1, c.in-Exact.is) (FetchesAnd-any _ _ _ _ _ (omega arith) (λ fetched.
    (Responds-none _ _ p.0 c.args.self.now _ c.requires.settled, rw (sym c.as_slice-in-Exact.ensures) c.exact.ensures.work)))

pub returns-in_ok-answer-in-Exact-clause-responds : goal.returns-in_ok-answer-in-Exact-clause-responds
returns-in_ok-answer-in-Exact-clause-responds g c =
    let state = state_of c.args.self.now in
    rw c.in-Exact.is
    (FetchesAnd-nothing _ _ _ _ refl (
      Responds-answer _ _ c.args.self.now c.told-in-Exact.result c.in_ok-answer-in-Exact.answer (Told state (exact_reply state c.in-Exact.of c.in-Exact.rows)) c.requires.settled
          c.told-in-Exact.ensures.reply c.told-in-Exact.ensures.effect
          (ap (Told state) (sym (c.in_ok-answer-in-Exact.ensures.reply ∙ ap (exact_reply state c.in-Exact.of) c.as_slice-in-Exact.ensures))),
      rw (sym c.as_slice-in-Exact.ensures) c.exact.ensures.work,
    ))

pub returns-in-Budget-clause-responds : goal.returns-in-Budget-clause-responds
returns-in-Budget-clause-responds g c =
    let state = state_of c.args.self.now in
    rw c.in-Budget.is (FetchesAnd-nothing _ _ _ _ refl (Responds-answer _ _ c.args.self.now c.told-in-Budget.result c.budget.result (Told state (budget_reply state c.in-Budget.source)) c.requires.settled c.told-in-Budget.ensures.reply c.told-in-Budget.ensures.effect (ap (Told state) (sym c.budget.ensures)), omega arith))
