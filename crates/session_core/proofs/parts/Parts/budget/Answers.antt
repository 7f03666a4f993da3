use Rattle.std.proofs.Common.{◌∙◌, List, ap, ap₂, arith, length, sym, ℕ, ◌-◌}
use Rattle.std.proofs.lemmas.Option.{get_or_from_slice_get}
use lib.ListN.{length-map}
use Rattle.budget_book.specs.Budgets.{spent_at, total_at}
use Rattle.budget_book.specs.declared.budget.Budget.{Budget}
use Rattle.messages.specs.declared.reply.Reply.TheVariants as reply
use Rattle.request_machine.specs.Charges.{budget_of}
use Rattle.request_machine.specs.Named.{source_name}
use Rattle.request_machine.proofs.MeasureLemmas.{budget_known, budget_unknown}
use Rattle.request_machine.proofs.Outcomes.{place_within}
use Rattle.session_data.proofs.BookLemmas.{spent_here, total_here}
use Rattle.session_data.proofs.Turned.{somewhere}
use Rattle.session_core.specs.Parts.{state_of}
use Rattle.session_core.proofs.parts.Parts.budget.Goals as goal

pub total-total-requires : goal.total-total-requires
total-total-requires c =
    let sources = c.args.self.now.sources.committed in
    let lt = place_within source_name c.args.name sources c.in-Some.at (sym c.in-Some.ensures) in
    omega (arith, lt, ap length c.book.ensures, length-map sources budget_of)

pub spent-spent-requires : goal.spent-spent-requires
spent-spent-requires c =
    let sources = c.args.self.now.sources.committed in
    let lt = place_within source_name c.args.name sources c.in-Some.at (sym c.in-Some.ensures) in
    omega (arith, lt, ap length c.book-in-Some.ensures, length-map sources budget_of)

pub returns-in-None : goal.returns-in-None
returns-in-None c = sym (budget_unknown (state_of c.args.self.now) c.args.name (sym c.in-None.ensures))

pub returns-in-Some : goal.returns-in-Some
returns-in-Some c =
    let sources = c.args.self.now.sources.committed in
    let at = c.in-Some.at in
    let there = somewhere sources at (place_within source_name c.args.name sources at (sym c.in-Some.ensures)) in
    let total = c.total-total.ensures.value ∙ ap (λ (book : List Budget). total_at book at) c.book.ensures ∙ total_here sources at there.0 there.1 in
    let spent = c.spent-spent.ensures.value ∙ ap (λ (book : List Budget). spent_at book at) c.book-in-Some.ensures ∙ spent_here sources at there.0 there.1 in
    ap₂ (λ (t s : ℕ). reply.Budget (t - s) s t) total spent
    ∙ sym (budget_known (state_of c.args.self.now) c.args.name at there.0 (sym c.in-Some.ensures) (sym (get_or_from_slice_get sources at there.0 there.0 there.1)))
