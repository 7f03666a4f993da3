-- The budgets of sources, and what is spent of them, in millionths of epsilon.
use Rattle.std.specs.Prelude.{ℕ, ◌-◌, ◌≤◌, List, slice_get}
use Rattle.std.specs.Option.{option_map_or}
use Rattle.budget_book.specs.declared.budget.Budget.{Budget}

-- the greatest total, and the most that is asked at once
abbrev pub max_total : ℕ
max_total = 1000000000000000

-- how much may be spent
abbrev pub total_of : Budget → ℕ
total_of budget = budget.total

-- how much is spent
abbrev pub spent_of : Budget → ℕ
spent_of budget = budget.spent

-- no more is spent than the total, which is within its limit
pub record IsKept (budget : Budget) : Type 0 where
  pub spent : spent_of budget ≤ total_of budget
  pub total : total_of budget ≤ max_total

-- a budget of which nothing is spent
abbrev pub new_budget : ℕ → Budget
new_budget total = record { total = total; spent = 0 }

-- how much may be spent of the source at a place
abbrev pub total_at : List Budget → ℕ → ℕ
total_at book place = option_map_or total_of (slice_get book place) 0

-- how much is spent of the source at a place
abbrev pub spent_at : List Budget → ℕ → ℕ
spent_at book place = option_map_or spent_of (slice_get book place) 0

-- how much is left of the source at a place
abbrev pub left_at : List Budget → ℕ → ℕ
left_at book place = total_at book place - spent_at book place
