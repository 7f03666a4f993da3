use Rattle.std.proofs.Common.{List, length, get_or, All, subst, ap, sym, ◌∙◌, arith}
use Rattle.std.proofs.lemmas.List.{take_all}
use Rattle.budget_book.specs.Asks.{charged}
use Rattle.budget_book.specs.Budgets.{IsKept}
use Rattle.budget_book.specs.declared.ask.Ask.{Ask}
use Rattle.budget_book.specs.declared.budget.Budget.{Budget}
use Rattle.budget_book.proofs.AskRanges.{source-below}
use Rattle.budget_book.proofs.Charges.{charge-turn, charged-none, kept-charged, length-charged, spent-fits}
use Rattle.budget_book.proofs.book.Book.charge.Goals as goal

abbrev no_ask : Ask
no_ask = record { source = 0; amount = 0 }

pub loop-ask-init : goal.loop-ask-init
loop-ask-init c = c.self.view_is ∙ sym (charged-none 0 c.args.self.now)

pub index_mut-requires : goal.index_mut-requires
index_mut-requires c =
    let len = ap length c.loop-ask.invariant ∙ length-charged 0 c.args.self.now _ in
    omega (arith, source-below 0 _ c.args.asks.now c.loop-ask.ask-index no_ask c.requires.asks c.loop-ask-test.true, c.loop-ask.self-inside.budgets.ok.0)

pub overflow_add-index_mut : goal.overflow_add-index_mut
overflow_add-index_mut c =
    let kept = subst (All IsKept) c.self.view_is c.self.invariant in
    let source = source-below 0 _ c.args.asks.now c.loop-ask.ask-index no_ask c.requires.asks c.loop-ask-test.true in
    let fits = spent-fits _ c.args.self.now c.args.asks.now c.loop-ask.ask-index no_ask c.index_mut.result.now c.requires.asks c.requires.can kept c.loop-ask-test.true source in
    let read = c.index_mut.ensures.value ∙ ap (λ (list : List Budget). get_or list (get_or c.args.asks.now c.loop-ask.ask-index no_ask).source c.index_mut.result.now) c.loop-ask.invariant in
    omega (arith, fits, ap (λ (b : Budget). b.spent) read)

pub loop-ask-preserved : goal.loop-ask-preserved
loop-ask-preserved c =
    charge-turn c.args.self.now _ c.args.asks.now c.loop-ask.ask-index no_ask c.index_mut.result.now c.loop-ask.invariant c.loop-ask-test.true
    (source-below 0 _ c.args.asks.now c.loop-ask.ask-index no_ask c.requires.asks c.loop-ask-test.true) c.index_mut.ensures.value

pub returns-clause-value : goal.returns-clause-value
returns-clause-value c =
    c.loop-ask.invariant ∙ ap (charged c.args.self.now) (take_all c.loop-ask.ask-index c.args.asks.now c.loop-ask-test.false)

pub invariant_of-self : goal.invariant_of-self
invariant_of-self c =
    let kept = subst (All IsKept) c.self.view_is c.self.invariant in
    let all = c.loop-ask.invariant ∙ ap (charged c.args.self.now) (take_all c.loop-ask.ask-index c.args.asks.now c.loop-ask-test.false) in
    subst (All IsKept) (sym all) (kept-charged _ c.args.self.now c.args.asks.now c.requires.asks c.requires.can kept)

pub returns-clause-kept : goal.returns-clause-kept
returns-clause-kept c =
    let kept = subst (All IsKept) c.self.view_is c.self.invariant in
    let all = c.loop-ask.invariant ∙ ap (charged c.args.self.now) (take_all c.loop-ask.ask-index c.args.asks.now c.loop-ask-test.false) in
    subst (All IsKept) (sym all) (kept-charged _ c.args.self.now c.args.asks.now c.requires.asks c.requires.can kept)
