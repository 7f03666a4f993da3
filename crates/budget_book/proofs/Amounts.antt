-- How much is asked of a source.
use Rattle.std.proofs.Common.{◌≡◌, ℕ, ◌+◌, ◌<◌, ◌≤◌, zero, suc, Bool, true, false, cond, List, [], ◌∷◌, ◌++◌, take, Some, None, find, eqb, inl, inr, refl, subst, zero-add, arith}
use Rattle.std.proofs.lemmas.Bool.{ne_eqb, cases_eq, eq-eqb, ltb-false}
use Rattle.budget_book.specs.Asks.{AreAsksFrom, asked_of, is_short}
use Rattle.budget_book.specs.Budgets.{spent_at, total_at}
use Rattle.budget_book.specs.declared.ask.Ask.{Ask}
use Rattle.budget_book.specs.declared.budget.Budget.{Budget}

-- what an ask asks of the source at a place
abbrev pub amount_at : Ask → ℕ → ℕ
amount_at ask place = cond (eqb ask.source place) ask.amount 0

pub asked_of-push : (asks : List Ask) (ask : Ask) (place : ℕ)
    → asked_of (asks ++ ask ∷ []) place ≡ asked_of asks place + amount_at ask place
asked_of-push [] ask place = omega arith
asked_of-push (first ∷ asks) ask place = omega (arith, asked_of-push asks ask place)

-- nothing is asked of a source below the lowest
asked_of-below : (lowest count : ℕ) (asks : List Ask) (place : ℕ)
    → AreAsksFrom lowest count asks → place < lowest → asked_of asks place ≡ 0
asked_of-below lowest count [] place are below = refl
asked_of-below lowest count (ask ∷ asks) place are below =
    let other : eqb ask.source place ≡ false = ne_eqb _ _ (λ e. let l = are.0 in omega arith) in
    rw (other, zero-add) (asked_of-below (ask.source + 1) count asks place are.3 (let l = are.0 in omega arith))

-- where no element passes, neither the first one nor a later one does
none-first : {X : Type 0} (p : X → Bool) (x : X) (xs : List X)
    → find p (x ∷ xs) ≡ None → (p x ≡ false) × (find p xs ≡ None)
none-first p x xs none =
    elim (p x) as (λ b. cond b (Some x) (find p xs) ≡ None → (b ≡ false) × (find p xs ≡ None))
    [ true ↦ λ e. absurd cc | false ↦ λ e. (refl, e) ] none

-- where no ask is short, what is asked of each source fits its total
pub asked-fits : (book : List Budget) (lowest count : ℕ) (asks : List Ask) (place : ℕ)
    → AreAsksFrom lowest count asks → find (is_short book) asks ≡ None → spent_at book place ≤ total_at book place
    → spent_at book place + asked_of asks place ≤ total_at book place
asked-fits book lowest count [] place are none kept = omega arith
asked-fits book lowest count (ask ∷ asks) place are none kept =
    let parts = none-first (is_short book) ask asks none in
    elim (cases_eq ask.source place) [
      | inl same ↦
          let later : asked_of asks place ≡ 0 = asked_of-below (ask.source + 1) count asks place are.3 (omega arith) in
          let fits : spent_at book place + ask.amount ≤ total_at book place =
          subst (λ (s : ℕ). spent_at book s + ask.amount ≤ total_at book s) same (ltb-false _ _ parts.0) in
          rw (eq-eqb _ _ same, later) (omega arith)
      | inr other ↦ rw (ne_eqb _ _ other, zero-add) (asked-fits book (ask.source + 1) count asks place are.3 parts.1 kept)
    ]

-- the asks up to a place ask no more than all
pub asked_of-take : (asks : List Ask) (k : ℕ) (place : ℕ) → asked_of (take k asks) place ≤ asked_of asks place
asked_of-take [] zero place = omega arith
asked_of-take [] (suc k) place = omega arith
asked_of-take (ask ∷ asks) zero place = omega arith
asked_of-take (ask ∷ asks) (suc k) place = omega (arith, asked_of-take asks k place)
