use Rattle.std.proofs.Common.{length, find, ap, refl, arith}
use Rattle.std.proofs.lemmas.List.{at_drop_all}
use Rattle.budget_book.specs.Asks.{is_short}
use Rattle.budget_book.specs.declared.ask.Ask.{Ask}
use Rattle.budget_book.proofs.AskRanges.{source-below, amount-within, budget-read, read-kept, short-found, short-passed}
use Rattle.budget_book.proofs.book.Book.can.Goals as goal

abbrev no_ask : Ask
no_ask = record { source = 0; amount = 0 }

pub index-budget-requires : goal.index-budget-requires
index-budget-requires c =
    let len = ap length c.self.view_is in
    omega (arith, source-below 0 _ c.args.asks.now c.loop-ask.ask-index no_ask c.requires c.loop-ask-test.true, c.self.inside.budgets.ok.0)

pub overflow_add-budget : goal.overflow_add-budget
overflow_add-budget c =
    let len = ap length c.self.view_is in
    let source = source-below 0 _ c.args.asks.now c.loop-ask.ask-index no_ask c.requires c.loop-ask-test.true in
    let keeps = read-kept _ _ _ c.self.invariant (omega arith) c.index-budget.ensures in
    let amount = amount-within 0 _ c.args.asks.now c.loop-ask.ask-index no_ask c.requires c.loop-ask-test.true in
    omega (arith, keeps.spent, keeps.total)

pub overflow_sub-result : goal.overflow_sub-result
overflow_sub-result c =
    let len = ap length c.self.view_is in
    let source = source-below 0 _ c.args.asks.now c.loop-ask.ask-index no_ask c.requires c.loop-ask-test.true in
    (read-kept _ _ _ c.self.invariant (omega arith) c.index-budget.ensures).spent

pub returns-then-budget-ask : goal.returns-then-budget-ask
returns-then-budget-ask c =
    let len = ap length c.self.view_is in
    let source = source-below 0 _ c.args.asks.now c.loop-ask.ask-index no_ask c.requires c.loop-ask-test.true in
    let at = budget-read _ _ _ _ c.self.view_is (omega arith) c.index-budget.ensures in
    short-found c.args.self.now c.args.asks.now c.loop-ask.ask-index no_ask _ c.loop-ask-test.true at c.loop-ask.invariant c.if-budget-ask.true

pub loop-ask-preserved : goal.loop-ask-preserved
loop-ask-preserved c =
    let len = ap length c.self.view_is in
    let source = source-below 0 _ c.args.asks.now c.loop-ask.ask-index no_ask c.requires c.loop-ask-test.true in
    let at = budget-read _ _ _ _ c.self.view_is (omega arith) c.index-budget.ensures in
    short-passed c.args.self.now c.args.asks.now c.loop-ask.ask-index no_ask _ c.loop-ask-test.true at c.loop-ask.invariant c.if-budget-ask.false

pub returns : goal.returns
returns c =
    let none = at_drop_all (find (is_short c.args.self.now)) c.args.asks.now c.loop-ask.ask-index c.loop-ask-test.false in
    rw (← c.loop-ask.invariant, none) refl
