-- Each of the asks by its place: its source and its amount, and whether it is the first that is short.
use Rattle.std.proofs.Common.{◌≡◌, ℕ, ◌+◌, ◌-◌, ◌<◌, ◌≤◌, zero, suc, true, false, List, [], ◌∷◌, length, get_or, drop, Some, find, All, refl, sym, subst, arith}
use Rattle.std.specs.Prelude.{slice_get}
use Rattle.std.proofs.lemmas.Bool.{lt-ltb, le-ltb}
use Rattle.std.proofs.lemmas.List.{at_drop_more}
use Rattle.std.proofs.lemmas.Option.{slice_get_read}
use Rattle.budget_book.specs.Asks.{AreAsksFrom, first_short, is_short}
use Rattle.budget_book.specs.Budgets.{IsKept, max_total}
use Rattle.budget_book.specs.declared.ask.Ask.{Ask}
use Rattle.budget_book.specs.declared.budget.Budget.{Budget}

pub source-below : (lowest count : ℕ) (asks : List Ask) (k : ℕ) (d : Ask)
    → AreAsksFrom lowest count asks → k < length asks → (get_or asks k d).source < count
source-below lowest count [] k d are within = absurd (omega arith)
source-below lowest count (ask ∷ asks) zero d are within = are.1
source-below lowest count (ask ∷ asks) (suc k) d are within =
    source-below (ask.source + 1) count asks k d are.3 (omega arith)

pub amount-within : (lowest count : ℕ) (asks : List Ask) (k : ℕ) (d : Ask)
    → AreAsksFrom lowest count asks → k < length asks → (get_or asks k d).amount ≤ max_total
amount-within lowest count [] k d are within = absurd (omega arith)
amount-within lowest count (ask ∷ asks) zero d are within = are.2
amount-within lowest count (ask ∷ asks) (suc k) d are within =
    amount-within (ask.source + 1) count asks k d are.3 (omega arith)

-- the ask at a place is short, and none before it is
pub short-found : (book : List Budget) (asks : List Ask) (k : ℕ) (d : Ask) (b : Budget) → k < length asks
    → slice_get book (get_or asks k d).source ≡ Some b
    → find (is_short book) (drop k asks) ≡ find (is_short book) asks
    → b.total < b.spent + (get_or asks k d).amount
    → Some (record { source = (get_or asks k d).source; left = b.total - b.spent; asked = (get_or asks k d).amount })
    ≡ first_short book asks
short-found book asks k d b within at front over =
    let here = at_drop_more (find (is_short book)) asks k d within in
    let test : is_short book (get_or asks k d) ≡ true = rw at (lt-ltb _ _ over) in
    rw (← front, here, test, at) refl

-- the ask at a place isn't short
pub short-passed : (book : List Budget) (asks : List Ask) (k : ℕ) (d : Ask) (b : Budget) → k < length asks
    → slice_get book (get_or asks k d).source ≡ Some b
    → find (is_short book) (drop k asks) ≡ find (is_short book) asks
    → b.spent + (get_or asks k d).amount ≤ b.total
    → find (is_short book) (drop (k + 1) asks) ≡ find (is_short book) asks
short-passed book asks k d b within at front fits =
    let here = at_drop_more (find (is_short book)) asks k d within in
    let test : is_short book (get_or asks k d) ≡ false = rw at (le-ltb _ _ fits) in
    rw (← front, here, test) refl

-- the budget that is read at a place
pub budget-read : (fields book : List Budget) (place : ℕ) (b : Budget) → fields ≡ book → place < length fields
    → b ≡ get_or fields place b → slice_get book place ≡ Some b
budget-read fields book place b same within read =
    subst (λ (list : List Budget). slice_get list place ≡ Some b) same (slice_get_read fields _ place b refl within read)

-- it is kept
pub read-kept : (book : List Budget) (place : ℕ) (b : Budget) → All IsKept book → place < length book
    → b ≡ get_or book place b → IsKept b
read-kept book place b kept within read = subst IsKept (sym read) (kept place b within)
