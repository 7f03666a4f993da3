use Rattle.std.proofs.Common.{List, ap, sym, subst, ◌∙◌, ◌+◌, ◌≤◌}
use Rattle.std.specs.Prelude.{All, length}
use Rattle.budget_book.specs.Asks.{AreAsks, charged, first_short}
use Rattle.budget_book.specs.Budgets.{IsKept}
use Rattle.budget_book.specs.declared.budget.Budget.{Budget}
use Rattle.indexmap.specs.IndexSet.{spare}
use Rattle.request_machine.specs.Charges.{after_charges, book_of}
use Rattle.session_data.specs.Flow.{committed_family, pending_family}
use Rattle.session_data.specs.Held.{HeldSources, sources_of}
use Rattle.session_data.proofs.BookLemmas.{book_of-sources_of, length-book, sources_of-charged}
use Rattle.session_data.proofs.HeldLemmas.{committed_one, length-held, pending_one}
use Rattle.session_data.proofs.sources.Sources.charge.Goals as goal

pub charge-requires-clause-asks : goal.charge-requires-clause-asks
charge-requires-clause-asks c =
    let inside = c.self.inside in
    let alike = c.self.invariant.0 in
    subst (λ n. AreAsks n c.args.asks.now)
    (ap (λ (h : HeldSources). length h.committed) (sym c.self.view_is) ∙ length-held _ inside.types inside.sets inside.book alike ∙ sym alike.budgets) c.requires.asks

pub charge-requires-clause-can : goal.charge-requires-clause-can
charge-requires-clause-can c =
    let inside = c.self.inside in
    let one = committed_one _ inside.types inside.sets inside.book c.self.invariant.0 in
    ap (λ (book : List Budget). first_short book c.args.asks.now)
    (sym (book_of-sources_of inside.types (committed_family inside.sets) inside.book one) ∙ ap (λ (h : HeldSources). book_of h.committed) c.self.view_is)
    ∙ c.requires.can

pub invariant_of-self : goal.invariant_of-self
invariant_of-self c =
    let inside = c.self.inside in
    let alike = c.self.invariant.0 in
    let same = ap length c.charge.ensures.value ∙ length-book inside.book c.args.asks.now in (
      record { names = alike.names; sets = alike.sets; budgets = same ∙ alike.budgets },
      subst (λ n. 16 ≤ spare inside.names + n) (sym same) c.self.invariant.1,
    )

pub returns-clause-committed : goal.returns-clause-committed
returns-clause-committed c =
    let inside = c.self.inside in
    ap (sources_of inside.types (committed_family inside.sets)) c.charge.ensures.value
    ∙ sources_of-charged inside.types (committed_family inside.sets) inside.book c.args.asks.now (committed_one _ inside.types inside.sets inside.book c.self.invariant.0)
    ∙ ap (λ (h : HeldSources). after_charges h.committed c.args.asks.now) c.self.view_is

pub returns-clause-pending : goal.returns-clause-pending
returns-clause-pending c =
    let inside = c.self.inside in
    ap (sources_of inside.types (pending_family inside.sets)) c.charge.ensures.value
    ∙ sources_of-charged inside.types (pending_family inside.sets) inside.book c.args.asks.now (pending_one _ inside.types inside.sets inside.book c.self.invariant.0)
    ∙ ap (λ (h : HeldSources). after_charges h.pending c.args.asks.now) c.self.view_is

pub returns-clause-kept : goal.returns-clause-kept
returns-clause-kept c =
    let inside = c.self.inside in
    let alike = c.self.invariant.0 in
    let same = ap length c.charge.ensures.value ∙ length-book inside.book c.args.asks.now in
    let one = committed_one _ inside.types inside.sets c.charge.new.self (record { names = alike.names; sets = alike.sets; budgets = same ∙ alike.budgets }) in
    subst (λ (book : List Budget). All IsKept book) (sym (book_of-sources_of inside.types (committed_family inside.sets) c.charge.new.self one)) c.charge.ensures.kept
