use Rattle.std.proofs.Common.{◌≡◌, drop, find}
use Rattle.budget_book.specs.Asks.{is_short}
use Rattle.budget_book.proofs.book.Book.can.Given as goal

abbrev pub invariant-loop-ask : goal.invariant-loop-ask
invariant-loop-ask l = find (is_short l.self) (drop l.ask-index l.asks) ≡ find (is_short l.self) l.asks
