-- A book that is charged, ask by ask.
use Rattle.std.proofs.Common.{◌≡◌, ℕ, ◌+◌, ◌<◌, ◌≤◌, zero, suc, true, false, List, [], ◌∷◌, ◌++◌, length, get_or, set, take, Option, Some, None, eqb, All, refl, ap, sym, subst, ◌∙◌, arith}
use Rattle.std.specs.Option.{option_map}
use Rattle.std.proofs.lemmas.Bool.{ne_eqb, eq-eqb}
use Rattle.std.proofs.lemmas.List.{take_more}
use Rattle.std.proofs.lemmas.Option.{slice_get-get_or}
use Rattle.budget_book.specs.Asks.{AreAsksFrom, asked_of, charged, charged_from, first_short, short_of, spend}
use Rattle.budget_book.specs.Budgets.{IsKept, max_total, spent_at, total_at}
use Rattle.budget_book.specs.declared.ask.Ask.{Ask}
use Rattle.budget_book.specs.declared.budget.Budget.{Budget}
use Rattle.budget_book.proofs.Amounts.{asked_of-push, asked_of-take, asked-fits}

pub length-charged : (place : ℕ) (book : List Budget) (asks : List Ask)
    → length (charged_from place book asks) ≡ length book
length-charged place [] asks = refl
length-charged place (budget ∷ book) asks = ap suc (length-charged (place + 1) book asks)

-- each budget is charged for itself
pub charged-at : (place : ℕ) (book : List Budget) (asks : List Ask) (k : ℕ) (d : Budget) → k < length book
    → get_or (charged_from place book asks) k d ≡ spend (get_or book k d) (asked_of asks (place + k))
charged-at place [] asks k d within = absurd (omega arith)
charged-at place (budget ∷ book) asks zero d within =
    let same : place + 0 ≡ place = omega arith in rw same refl
charged-at place (budget ∷ book) asks (suc k) d within =
    let same : (place + 1) + k ≡ place + suc k = omega arith in
    charged-at (place + 1) book asks k d (omega arith) ∙ ap (λ p. spend (get_or book k d) (asked_of asks p)) same

-- a book without asks is unchanged
pub charged-none : (place : ℕ) (book : List Budget) → charged_from place book [] ≡ book
charged-none place [] = refl
charged-none place (budget ∷ book) =
    let same : budget.spent + 0 ≡ budget.spent = omega arith in
    rw (same, charged-none (place + 1) book) refl

-- an ask of an earlier source
charged-earlier : (place : ℕ) (book : List Budget) (asks : List Ask) (ask : Ask) → ask.source < place
    → charged_from place book (asks ++ ask ∷ []) ≡ charged_from place book asks
charged-earlier place [] asks ask earlier = refl
charged-earlier place (budget ∷ book) asks ask earlier =
    let other : eqb ask.source place ≡ false = ne_eqb _ _ (λ e. omega arith) in
    let none : asked_of (asks ++ ask ∷ []) place ≡ asked_of asks place =
    asked_of-push asks ask place ∙ rw other (omega arith) in
    rw (none, charged-earlier (place + 1) book asks ask (omega arith)) refl

-- one more ask is charged
pub charged-more : (place : ℕ) (book : List Budget) (asks : List Ask) (ask : Ask) (k : ℕ) (d : Budget)
    → ask.source ≡ place + k → k < length book
    → set (charged_from place book asks) k (spend (get_or (charged_from place book asks) k d) ask.amount)
    ≡ charged_from place book (asks ++ ask ∷ [])
charged-more place [] asks ask k d source within = absurd (omega arith)
charged-more place (budget ∷ book) asks ask zero d source within =
    let own : eqb ask.source place ≡ true = eq-eqb _ _ (omega arith) in
    let more : (budget.spent + asked_of asks place) + ask.amount ≡ budget.spent + asked_of (asks ++ ask ∷ []) place =
    rw (asked_of-push asks ask place, own) (omega arith) in
    rw (more, charged-earlier (place + 1) book asks ask (omega arith)) refl
charged-more place (budget ∷ book) asks ask (suc k) d source within =
    let other : eqb ask.source place ≡ false = ne_eqb _ _ (λ e. omega arith) in
    let none : asked_of asks place ≡ asked_of (asks ++ ask ∷ []) place =
    sym (asked_of-push asks ask place ∙ rw other (omega arith)) in
    rw (none, charged-more (place + 1) book asks ask k d (omega arith) (omega arith)) refl

-- what is spent and what may be, by place
kept-at : (book : List Budget) (k : ℕ) (d : Budget) → k < length book → All IsKept book
    → (spent_at book k ≡ (get_or book k d).spent) × (total_at book k ≡ (get_or book k d).total)
    × (spent_at book k ≤ total_at book k) × (total_at book k ≤ max_total)
kept-at book k d within kept =
    let at = slice_get-get_or book k d within in
    let keeps = kept k d within in
    let fits : (get_or book k d).spent ≤ (get_or book k d).total = keeps.spent in
    let limit : (get_or book k d).total ≤ max_total = keeps.total in
    rw at (refl, refl, fits, limit)

-- no ask is short
none-short : (book : List Budget) (asks : List Ask) (found : Option Ask)
    → option_map (short_of book) found ≡ None → found ≡ None
none-short book asks None none = refl
none-short book asks (Some ask) none = absurd cc

-- what is spent of a source with all that is asked of it
spent-all : (count : ℕ) (book : List Budget) (asks : List Ask) (k : ℕ) (d : Budget) → AreAsksFrom 0 count asks
    → first_short book asks ≡ None → All IsKept book → k < length book
    → ((get_or book k d).spent + asked_of asks k ≤ (get_or book k d).total) × ((get_or book k d).total ≤ max_total)
spent-all count book asks k d are none kept within =
    let at = kept-at book k d within kept in
    let fits = asked-fits book 0 count asks k are (none-short book asks _ none) at.2 in
    (omega (arith, fits, at.0, at.1), omega (arith, at.1, at.3))

-- a charged book keeps to its totals
pub kept-charged : (count : ℕ) (book : List Budget) (asks : List Ask) → AreAsksFrom 0 count asks
    → first_short book asks ≡ None → All IsKept book → All IsKept (charged book asks)
kept-charged count book asks are none kept k d within =
    let in_book : k < length book = omega (arith, length-charged 0 book asks) in
    let all = spent-all count book asks k d are none kept in_book in
    let same : 0 + k ≡ k = omega arith in
    let fits : (get_or book k d).spent + asked_of asks (0 + k) ≤ (get_or book k d).total = rw same all.0 in
    subst IsKept (sym (charged-at 0 book asks k d in_book)) (record { spent = fits; total = all.1 })

-- what is spent of a source, and the next ask of it, are together within the limit
pub spent-fits : (count : ℕ) (book : List Budget) (asks : List Ask) (k : ℕ) (d : Ask) (b : Budget)
    → AreAsksFrom 0 count asks → first_short book asks ≡ None → All IsKept book → k < length asks
    → (get_or asks k d).source < length book
    → (get_or (charged book (take k asks)) (get_or asks k d).source b).spent + (get_or asks k d).amount ≤ max_total
spent-fits count book asks k d b are none kept within in_book =
    let ask = get_or asks k d in
    let all = spent-all count book asks ask.source b are none kept in_book in
    let before : asked_of (take (k + 1) asks) ask.source ≤ asked_of asks ask.source = asked_of-take asks (k + 1) ask.source in
    let next : asked_of (take (k + 1) asks) ask.source ≡ asked_of (take k asks) ask.source + ask.amount =
    rw (take_more asks k d within, asked_of-push (take k asks) ask ask.source, eq-eqb ask.source ask.source refl) refl in
    let same : 0 + ask.source ≡ ask.source = omega arith in
    rw (charged-at 0 book (take k asks) ask.source b in_book, same) (omega (arith, all.0, all.1))

-- the next ask is charged
pub charge-turn : (book items : List Budget) (asks : List Ask) (k : ℕ) (d : Ask) (b : Budget)
    → items ≡ charged book (take k asks) → k < length asks → (get_or asks k d).source < length book
    → b ≡ get_or items (get_or asks k d).source b
    → set items (get_or asks k d).source (spend b (get_or asks k d).amount) ≡ charged book (take (k + 1) asks)
charge-turn book items asks k d b front within in_book read =
    let ask = get_or asks k d in
    let here : b ≡ get_or (charged book (take k asks)) ask.source b =
    read ∙ ap (λ (list : List Budget). get_or list ask.source b) front in
    ap (λ (list : List Budget). set list ask.source (spend b ask.amount)) front
    ∙ ap (λ (x : Budget). set (charged book (take k asks)) ask.source (spend x ask.amount)) here
    ∙ charged-more 0 book (take k asks) ask ask.source b (omega arith) in_book
    ∙ ap (λ (list : List Ask). charged book list) (sym (take_more asks k d within))
