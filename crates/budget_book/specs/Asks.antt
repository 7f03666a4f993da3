-- What is asked of sources, and what becomes of a book that is charged for it.
use Rattle.std.specs.Prelude.{ℕ, ◌+◌, ◌<◌, ◌≤◌, ⊤, Bool, nat_lt, ◌==◌, if◌then◌else◌, List, [], ◌∷◌, find, Option}
use Rattle.std.specs.Option.{option_map}
use Rattle.budget_book.specs.Budgets.{left_at, max_total, spent_at, total_at}
use Rattle.budget_book.specs.declared.ask.Ask.{Ask}
use Rattle.budget_book.specs.declared.budget.Budget.{Budget}
use Rattle.budget_book.specs.declared.short.Short.{Short}

-- the sources of the asks rise, from the lowest one on and below the count, and no amount is over the limit
abbrev pub AreAsksFrom : ℕ → ℕ → List Ask → Type 0
AreAsksFrom lowest count [] = ⊤
AreAsksFrom lowest count (ask ∷ asks) =
    (lowest ≤ ask.source) × (ask.source < count) × (ask.amount ≤ max_total) × AreAsksFrom (ask.source + 1) count asks

-- asks of so many sources
abbrev pub AreAsks : ℕ → List Ask → Type 0
AreAsks count asks = AreAsksFrom 0 count asks

-- what is spent of the source and what is asked of it are together over its total
abbrev pub is_short : List Budget → Ask → Bool
is_short book ask = nat_lt (total_at book ask.source) (spent_at book ask.source + ask.amount)

-- what is told of a source that is short
abbrev pub short_of : List Budget → Ask → Short
short_of book ask = record { source = ask.source; left = left_at book ask.source; asked = ask.amount }

-- the first ask that is short
abbrev pub first_short : List Budget → List Ask → Option Short
first_short book asks = option_map (short_of book) (find (is_short book) asks)

-- how much is asked of the source at a place
abbrev pub asked_of : List Ask → ℕ → ℕ
asked_of [] place = 0
asked_of (ask ∷ asks) place = (if ask.source == place then ask.amount else 0) + asked_of asks place

-- the budget with so much more spent
abbrev pub spend : Budget → ℕ → Budget
spend budget amount = record budget { spent = budget.spent + amount }

-- the budgets from a place on, each with what is asked of it spent
abbrev pub charged_from : ℕ → List Budget → List Ask → List Budget
charged_from place [] asks = []
charged_from place (budget ∷ book) asks = spend budget (asked_of asks place) ∷ charged_from (place + 1) book asks

-- the book after the asks are charged
abbrev pub charged : List Budget → List Ask → List Budget
charged book asks = charged_from 0 book asks
