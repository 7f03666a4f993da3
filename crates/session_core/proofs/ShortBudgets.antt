-- The first source that is short.
use Rattle.std.proofs.Common.{◌≡◌, ◌<◌, ℕ, ◌+◌, List, [], ◌∷◌, true, false, subst, cond, find, Some}
use Rattle.std.specs.Option.{option_map}
use Rattle.budget_book.specs.Asks.{AreAsksFrom, first_short, is_short, short_of}
use Rattle.budget_book.specs.declared.ask.Ask.{Ask}
use Rattle.budget_book.specs.declared.budget.Budget.{Budget}
use Rattle.budget_book.specs.declared.short.Short.{Short}

-- it is one of those that were asked, so it is there
pub short_is_there : (book : List Budget) (lowest count : ℕ) (asks : List Ask) (short : Short) → AreAsksFrom lowest count asks → first_short book asks ≡ Some short → short.source < count
short_is_there book lowest count [] short asked is = cc
short_is_there book lowest count (ask ∷ asks) short asked is =
    (elim (is_short book ask) as (λ b. option_map (short_of book) (cond b (Some ask) (find (is_short book) asks)) ≡ Some short → short.source < count) [
      | true ↦ λ e. let same : short_of book ask ≡ short = cc in subst (λ (s : Short). s.source < count) same asked.1
      | false ↦ λ e. short_is_there book (ask.source + 1) count asks short asked.3 e
    ]) is
