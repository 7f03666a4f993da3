use Rattle.std.proofs.Common.{◌<◌, ◌≤◌, ◌∙◌, ◌≡◌, ℕ, List, ap, ap₂, length, map, subst, sym, None, Some, get_or, []}
use Rattle.std.specs.Prelude.{All}
use Rattle.std.specs.Option.{option_map}
use lib.ListN.{length-map}
use Rattle.budget_book.specs.Asks.{AreAsks, first_short}
use Rattle.budget_book.specs.declared.ask.Ask.{Ask}
use Rattle.budget_book.specs.declared.budget.Budget.{Budget}
use Rattle.messages.specs.declared.refusal.Refusal.TheVariants as refusal
use Rattle.messages.specs.declared.reply.Reply.TheVariants as reply
use Rattle.messages.specs.declared.thing.Thing.TheVariants as thing
use Rattle.record_text.specs.declared.kinds.Kind.{Kind}
use Rattle.request_machine.specs.Charges.{at_epsilon, book_of, budget_of, charges_of, short_refusal}
use Rattle.request_machine.specs.LookUps.{first_row_fault}
use Rattle.request_machine.specs.Measures.{measured}
use Rattle.request_machine.specs.Named.{plan_name}
use Rattle.request_machine.specs.Stages.{Stage}
use Rattle.session_core.specs.Draws.{Responds}
use Rattle.request_machine.specs.State.{family_of, type_of, types_of}
use Rattle.request_machine.proofs.MeasureLemmas.{measured_ready, measured_row, measured_short, measured_unknown}
use Rattle.request_machine.proofs.Outcomes.{place_within}
use Rattle.plan_model.specs.Acceptance.{max_uses}
use Rattle.session_data.specs.Planned.{IsSettled, plan_state, plan_states}
use Rattle.session_data.specs.declared.plans.Planned.{Planned}
use Rattle.session_data.proofs.BookLemmas.{name_here}
use Rattle.session_data.proofs.PlanLoops.{state_here}
use Rattle.session_data.proofs.UsedLemmas.{charges-asked, few_uses}
use Rattle.session_core.specs.Parts.{AreSettled, state_of}
use Rattle.session_core.specs.declared.parts.Parts.{Parts}
use Rattle.std.proofs.lemmas.Result.{err_from_is_err_and}
use Rattle.session_core.proofs.AnswerLemmas.{Responds-answer}
use Rattle.session_core.proofs.Measuring.{Responds-none}
use Rattle.session_core.proofs.ShortBudgets.{short_is_there}
use Rattle.session_core.proofs.parts.Parts.measure.Goals as goal

-- the plan at the place of a name
held_at : (parts : Parts) (settled : AreSettled parts) (i : ℕ) (planned : Planned) → i < length parts.plans.items → planned ≡ get_or parts.plans.items i planned
    → IsSettled (types_of parts.sources.committed) (family_of parts.sources.committed) planned
held_at parts settled i planned lt is =
    subst (IsSettled (types_of parts.sources.committed) (family_of parts.sources.committed)) (sym is) (settled.plans i planned lt)

-- what is asked of it
asked_at : (parts : Parts) (epsilon : ℕ) (planned : Planned) (uses asks : List Ask) → IsSettled (types_of parts.sources.committed) (family_of parts.sources.committed) planned
    → uses ≡ planned.uses.items → asks ≡ map (at_epsilon epsilon) uses → asks ≡ charges_of epsilon planned.plan (types_of parts.sources.committed)
asked_at parts epsilon planned uses asks held is asked = asked ∙ ap (map (at_epsilon epsilon)) (is ∙ held.holds.uses)

may_ask : (parts : Parts) (epsilon : ℕ) (planned : Planned) (asks : List Ask) → epsilon ≤ 1000000000
    → IsSettled (types_of parts.sources.committed) (family_of parts.sources.committed) planned → asks ≡ charges_of epsilon planned.plan (types_of parts.sources.committed)
    → AreAsks (length parts.sources.committed) asks
may_ask parts epsilon planned asks small held is =
    let sources = parts.sources.committed in
    subst (AreAsks (length sources)) (sym is)
    (subst (λ n. AreAsks n (charges_of epsilon planned.plan (types_of sources))) (length-map sources type_of) (charges-asked epsilon planned.plan (types_of sources) small held.holds.accepted))

-- a row that can't be looked up is told
pub returns-in-Some-2-clause-responds : goal.returns-in-Some-2-clause-responds
returns-in-Some-2-clause-responds g c =
    let parts = c.args.self.now in
    let state = state_of parts in
    let plans = parts.plans.items in
    let planned = c.index-planned.result.now in
    let lt : c.in-Some.at < length plans = subst (λ n. c.in-Some.at < n) (length-map plans plan_state) (place_within plan_name c.args.name (plan_states plans) c.in-Some.at (sym c.in-Some.ensures)) in
    let held = held_at parts c.requires.settled c.in-Some.at planned lt c.index-planned.ensures in
    let told = c.refused-in-Some-2 in
    Responds-answer _ _ parts told.result (reply.Refused c.in-Some-2.why) (measured state c.args.name c.args.rows.now c.args.epsilon) c.requires.settled told.ensures.reply told.ensures.effect
    (measured_row state c.args.name c.args.rows.now c.args.epsilon c.in-Some.at (plan_state planned) (sym c.in-Some.ensures) (state_here plans c.in-Some.at planned lt c.index-planned.ensures)
    c.in-Some-2.why (ap (λ (kinds : List Kind). first_row_fault kinds [] 0 c.args.rows.now) (sym held.holds.cols) ∙ sym (sym c.in-Some-2.is ∙ c.in_ok-why.ensures)))

pub asks_at-requires-clause-few : goal.asks_at-requires-clause-few
asks_at-requires-clause-few g c =
    let parts = c.args.self.now in
    let plans = parts.plans.items in
    let planned = c.index-planned.result.now in
    let lt : c.in-Some.at < length plans = subst (λ n. c.in-Some.at < n) (length-map plans plan_state) (place_within plan_name c.args.name (plan_states plans) c.in-Some.at (sym c.in-Some.ensures)) in
    let held = held_at parts c.requires.settled c.in-Some.at planned lt c.index-planned.ensures in
    subst (λ (asks : List Ask). All (λ (ask : Ask). ask.amount ≤ max_uses) asks) (sym (c.as_slice.ensures.value ∙ held.holds.uses))
    (few_uses planned.plan (types_of parts.sources.committed) held.holds.accepted)

pub returns-in_err-why-clause-responds : goal.returns-in_err-why-clause-responds
returns-in_err-why-clause-responds g c =
    let p = err_from_is_err_and c.from_residual.result c.from_residual.ensures.1 in
    rw (p.1) (Responds-none _ _ p.0 c.args.self.now _ c.requires.settled)

pub returns-in_err-asks-clause-responds : goal.returns-in_err-asks-clause-responds
returns-in_err-asks-clause-responds g c =
    let p = err_from_is_err_and c.from_residual-in_err-asks.result c.from_residual-in_err-asks.ensures.1 in
    rw (p.1) (Responds-none _ _ p.0 c.args.self.now _ c.requires.settled)

pub can-requires : goal.can-requires
can-requires g c =
    let parts = c.args.self.now in
    let plans = parts.plans.items in
    let planned = c.index-planned.result.now in
    let lt : c.in-Some.at < length plans = subst (λ n. c.in-Some.at < n) (length-map plans plan_state) (place_within plan_name c.args.name (plan_states plans) c.in-Some.at (sym c.in-Some.ensures)) in
    let held = held_at parts c.requires.settled c.in-Some.at planned lt c.index-planned.ensures in
    let asked = asked_at parts c.args.epsilon planned c.as_slice.result.now c.in_ok-asks.asks.items held c.as_slice.ensures.value c.in_ok-asks.ensures in
    let may = may_ask parts c.args.epsilon planned c.in_ok-asks.asks.items c.requires.high held asked in
    subst (λ (asks : List Ask). AreAsks (length c.book.result.now) asks) (sym c.as_slice-2.ensures.value)
    (subst (λ n. AreAsks n c.in_ok-asks.asks.items) (sym (ap length c.book.ensures ∙ length-map parts.sources.committed budget_of)) may)

pub source_type-source-requires : goal.source_type-source-requires
source_type-source-requires g c =
    let parts = c.args.self.now in
    let state = state_of parts in
    let sources = parts.sources.committed in
    let plans = parts.plans.items in
    let planned = c.index-planned.result.now in
    let lt : c.in-Some.at < length plans = subst (λ n. c.in-Some.at < n) (length-map plans plan_state) (place_within plan_name c.args.name (plan_states plans) c.in-Some.at (sym c.in-Some.ensures)) in
    let held = held_at parts c.requires.settled c.in-Some.at planned lt c.index-planned.ensures in
    let asked = asked_at parts c.args.epsilon planned c.as_slice.result.now c.in_ok-asks.asks.items held c.as_slice.ensures.value c.in_ok-asks.ensures in
    let may = may_ask parts c.args.epsilon planned c.in_ok-asks.asks.items c.requires.high held asked in
    short_is_there c.book.result.now 0 (length sources) c.as_slice-2.result.now c.in-Some-can.short
    (subst (λ (asks : List Ask). AreAsks (length sources) asks) (sym c.as_slice-2.ensures.value) may) (sym c.in-Some-can.ensures)

pub returns-in-Some-can-clause-responds : goal.returns-in-Some-can-clause-responds
returns-in-Some-can-clause-responds g c =
    let parts = c.args.self.now in
    let state = state_of parts in
    let sources = parts.sources.committed in
    let plans = parts.plans.items in
    let planned = c.index-planned.result.now in
    let lt : c.in-Some.at < length plans = subst (λ n. c.in-Some.at < n) (length-map plans plan_state) (place_within plan_name c.args.name (plan_states plans) c.in-Some.at (sym c.in-Some.ensures)) in
    let held = held_at parts c.requires.settled c.in-Some.at planned lt c.index-planned.ensures in
    let asked = asked_at parts c.args.epsilon planned c.as_slice.result.now c.in_ok-asks.asks.items held c.as_slice.ensures.value c.in_ok-asks.ensures in
    let short = c.in-Some-can.short in
    let why = refusal.Budget c.source_type-source.result.name short.left short.asked in
    let found : first_short (book_of sources) (charges_of c.args.epsilon planned.plan (types_of sources)) ≡ Some short =
    ap₂ (λ (book : List Budget) (asks : List Ask). first_short book asks) (sym c.book.ensures) (sym (c.as_slice-2.ensures.value ∙ asked)) ∙ sym c.in-Some-can.ensures in
    let named = name_here sources short.source c.source_type-source.result c.source_type-source.ensures in
    let told = c.refused-in-Some-can in
    Responds-answer _ _ parts told.result (reply.Refused why) (measured state c.args.name c.args.rows.now c.args.epsilon) c.requires.settled told.ensures.reply told.ensures.effect
    (measured_short state c.args.name c.args.rows.now c.args.epsilon c.in-Some.at (plan_state planned) (sym c.in-Some.ensures) (state_here plans c.in-Some.at planned lt c.index-planned.ensures)
    why (ap (λ (kinds : List Kind). first_row_fault kinds [] 0 c.args.rows.now) (sym held.holds.cols) ∙ sym (sym c.in_default-2.is ∙ c.in_ok-why.ensures))
    (ap (option_map (short_refusal sources)) found ∙ ap (λ (name : List ℕ). Some (refusal.Budget name short.left short.asked)) named))

pub release-requires-clause-may_ask : goal.release-requires-clause-may_ask
release-requires-clause-may_ask g c =
    let parts = c.args.self.now in
    let plans = parts.plans.items in
    let planned = c.index-planned.result.now in
    let lt : c.in-Some.at < length plans = subst (λ n. c.in-Some.at < n) (length-map plans plan_state) (place_within plan_name c.args.name (plan_states plans) c.in-Some.at (sym c.in-Some.ensures)) in
    let held = held_at parts c.requires.settled c.in-Some.at planned lt c.index-planned.ensures in
    let asked = asked_at parts c.args.epsilon planned c.as_slice.result.now c.in_ok-asks.asks.items held c.as_slice.ensures.value c.in_ok-asks.ensures in
    may_ask parts c.args.epsilon planned c.in_ok-asks.asks.items c.requires.high held asked

pub returns-clause-responds : goal.returns-clause-responds
returns-clause-responds g c =
    let parts = c.args.self.now in
    let state = state_of parts in
    let sources = parts.sources.committed in
    let plans = parts.plans.items in
    let planned = c.index-planned.result.now in
    let lt : c.in-Some.at < length plans = subst (λ n. c.in-Some.at < n) (length-map plans plan_state) (place_within plan_name c.args.name (plan_states plans) c.in-Some.at (sym c.in-Some.ensures)) in
    let held = held_at parts c.requires.settled c.in-Some.at planned lt c.index-planned.ensures in
    let asked = asked_at parts c.args.epsilon planned c.as_slice.result.now c.in_ok-asks.asks.items held c.as_slice.ensures.value c.in_ok-asks.ensures in
    let found : first_short (book_of sources) (charges_of c.args.epsilon planned.plan (types_of sources)) ≡ None =
    ap₂ (λ (book : List Budget) (asks : List Ask). first_short book asks) (sym c.book.ensures) (sym (c.as_slice-2.ensures.value ∙ asked)) ∙ sym c.in_default-can.ensures in
    subst (λ (s : Stage). Responds (g.N.Noise.given c.args.noise.now) (g.N.Noise.given c.release.new.noise) (g.N.Noise.faults c.args.noise.now) (g.N.Noise.faults c.release.new.noise) c.release.result parts parts s)
    (sym (measured_ready state c.args.name c.args.rows.now c.args.epsilon c.in-Some.at (plan_state planned) (sym c.in-Some.ensures) (state_here plans c.in-Some.at planned lt c.index-planned.ensures)
    (ap (λ (kinds : List Kind). first_row_fault kinds [] 0 c.args.rows.now) (sym held.holds.cols) ∙ sym (sym c.in_default-2.is ∙ c.in_ok-why.ensures))
    (ap (option_map (short_refusal sources)) found)))
    c.release.ensures.responds

pub returns-in_default-clause-responds : goal.returns-in_default-clause-responds
returns-in_default-clause-responds g c =
    let state = state_of c.args.self.now in
    Responds-answer _ _ c.args.self.now c.refused.result (reply.Refused (refusal.Unknown thing.Plan c.args.name)) (measured state c.args.name c.args.rows.now c.args.epsilon)
    c.requires.settled c.refused.ensures.reply c.refused.ensures.effect (measured_unknown state c.args.name c.args.rows.now c.args.epsilon (sym c.in_default.ensures))
