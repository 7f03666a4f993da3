-- The sources that a plan uses, and what a measurement charges them.
use Rattle.std.specs.Prelude.{ℕ, ◌+◌, ◌*◌, nat_lt, List, [], ◌∷◌, length, map, slice_index_or, if◌then◌else◌, Option}
use Rattle.std.specs.List.{range_with_len}
use Rattle.std.specs.Option.{option_map}
use Rattle.budget_book.specs.Asks.{charged, first_short}
use Rattle.budget_book.specs.declared.ask.Ask.{Ask}
use Rattle.budget_book.specs.declared.budget.Budget.{Budget}
use Rattle.budget_book.specs.declared.short.Short.{Short}
use Rattle.plan_model.specs.Uses.{uses}
use Rattle.plan_model.specs.declared.source_types.SourceType.{SourceType}
use Rattle.plan_model.specs.declared.step.Step.{Step}
use Rattle.messages.specs.declared.refusal.Refusal.{Refusal}
use Rattle.messages.specs.declared.refusal.Refusal.TheVariants as refusal
use Rattle.request_machine.specs.Named.{source_name}
use Rattle.request_machine.specs.State.{SourceState}

-- ---- what a plan uses

-- how often a plan uses each source
abbrev pub counts_of : List Step → List SourceType → List ℕ
counts_of plan types = map (uses plan types) (range_with_len 0 (length types))

-- so much of the source at a place
abbrev pub ask_of : ℕ → ℕ → Ask
ask_of place amount = record { source = place; amount = amount }

-- asks for these amounts of the sources from a place on, with none for an amount of 0
abbrev pub asks_from : ℕ → List ℕ → List Ask
asks_from place [] = []
asks_from place (n ∷ counts) =
    if nat_lt 0 n then ask_of place n ∷ asks_from (place + 1) counts
    else asks_from (place + 1) counts

-- the sources that a plan uses, in the order of their declaration, each with how often
abbrev pub uses_of : List Step → List SourceType → List Ask
uses_of plan types = asks_from 0 (counts_of plan types)

-- the sources' names, each with its amount
abbrev pub by_name : List SourceState → List Ask → List (List ℕ × ℕ)
by_name sources asks = map (λ (ask : Ask). (slice_index_or (map source_name sources) ask.source [], ask.amount)) asks

-- ---- what is charged

-- what a measurement asks of a source: epsilon as often as it is used
abbrev pub at_epsilon : ℕ → Ask → Ask
at_epsilon epsilon used = record { source = used.source; amount = epsilon * used.amount }

abbrev pub charges_of : ℕ → List Step → List SourceType → List Ask
charges_of epsilon plan types = map (at_epsilon epsilon) (uses_of plan types)

-- the budgets of sources
abbrev pub budget_of : SourceState → Budget
budget_of source = record { total = source.total; spent = source.spent }

abbrev pub book_of : List SourceState → List Budget
book_of sources = map budget_of sources

-- a source that is asked for more than is left of its budget
abbrev pub short_refusal : List SourceState → Short → Refusal
short_refusal sources short = refusal.Budget (slice_index_or (map source_name sources) short.source []) short.left short.asked

-- the first such source
abbrev pub budget_refusal : List SourceState → List Ask → Option Refusal
budget_refusal sources asks = option_map (short_refusal sources) (first_short (book_of sources) asks)

-- the sources with these budgets
abbrev pub with_book : List SourceState → List Budget → List SourceState
with_book [] book = []
with_book (source ∷ sources) [] = source ∷ sources
with_book (source ∷ sources) (budget ∷ book) =
    record source { total = budget.total; spent = budget.spent } ∷ with_book sources book

-- the sources after the asks are charged
abbrev pub after_charges : List SourceState → List Ask → List SourceState
after_charges sources asks = with_book sources (charged (book_of sources) asks)
