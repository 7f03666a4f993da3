use Rattle.std.proofs.Common.{◌≡◌, take}
use Rattle.budget_book.specs.Asks.{charged}
use Rattle.budget_book.proofs.book.Book.charge.Given as goal

abbrev pub invariant-loop-ask : goal.invariant-loop-ask
invariant-loop-ask l = l.self-inside.budgets.items ≡ charged l.fn.self (take l.ask-index l.asks)
