use Rattle.std.proofs.Common.{◌∙◌, ◌≡◌, ℕ, List, ap, sym, subst, length}
use Rattle.budget_book.specs.Asks.{AreAsks}
use Rattle.budget_book.specs.declared.ask.Ask.{Ask}
use Rattle.messages.specs.declared.reply.Reply.TheVariants as reply
use Rattle.request_machine.specs.Charges.{after_charges, by_name}
use Rattle.request_machine.specs.Measures.{measurement}
use Rattle.request_machine.specs.State.{State, family_of, types_of}
use Rattle.session_core.specs.Parts.{state_of}
use Rattle.std.proofs.lemmas.Result.{err_from_is_err_and}
use Rattle.session_core.proofs.Measuring.{Responds-none, Responds-values}
use Rattle.session_core.proofs.parts.Parts.release.Goals as goal

pub named-requires : goal.named-requires
named-requires g c = subst (λ (asks : List Ask). AreAsks (length c.args.self.now.sources.committed) asks) (sym c.as_slice.ensures.value) c.requires.may_ask

pub returns-in_err-charged-clause-responds : goal.returns-in_err-charged-clause-responds
returns-in_err-charged-clause-responds g c =
    let p = err_from_is_err_and c.from_residual.result c.from_residual.ensures.1 in
    rw (p.1) (Responds-none _ _ p.0 c.args.self.now _ c.requires.settled)

pub returns-in_err-weights-clause-responds : goal.returns-in_err-weights-clause-responds
returns-in_err-weights-clause-responds g c =
    let p = err_from_is_err_and c.from_residual-in_err-weights.result c.from_residual-in_err-weights.ensures.1 in
    rw (p.1) (Responds-none _ _ p.0 c.args.self.now _ c.requires.settled)

pub returns-in-Some-clause-responds : goal.returns-in-Some-clause-responds
returns-in-Some-clause-responds g c =
    let parts = c.args.self.now in
    let state = state_of parts in
    let sources = parts.sources.committed in
    let m = measurement state c.args.planned.now.plan c.args.rows.now c.args.epsilon in
    let weights : c.as_slice-2.result.now ≡ m.weights = c.as_slice-2.ensures ∙ c.in_ok-weights.ensures.weights (types_of sources) (family_of sources) c.requires.holds in
    let d = rw (c.in-Some.is, weights) at c.in_ok-values.ensures in
    Responds-values _ _ _ _ parts m c.requires.settled _ c.in-Some.values d (c.requires.settled, c.requires.may_ask, c.requires.can)
    (ap (λ (asks : List Ask). let s : State = record state { sources = after_charges sources asks } in s) c.requires.asks)
    (ap (λ (used : List (List ℕ × ℕ)). reply.Values used c.in-Some.values) (c.in_ok-charged.ensures ∙ ap (by_name sources) (c.as_slice.ensures.value ∙ c.requires.asks)))
