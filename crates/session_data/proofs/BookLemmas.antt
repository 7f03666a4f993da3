-- The budgets of sources.
use Rattle.std.proofs.Common.{◌≡◌, ◌<◌, ℕ, zero, suc, List, [], ◌∷◌, refl, sym, ap, ap₂, subst, ◌∙◌, arith, length, map, get_or, Some, ◌+◌}
use Rattle.std.specs.Prelude.{slice_get, slice_index_or}
use Rattle.budget_book.specs.Asks.{AreAsksFrom, charged, charged_from}
use Rattle.budget_book.specs.Budgets.{spent_at, total_at}
use Rattle.budget_book.specs.declared.ask.Ask.{Ask}
use Rattle.budget_book.specs.declared.budget.Budget.{Budget}
use Rattle.datasets.specs.Dataset.{Dataset}
use Rattle.plan_model.specs.declared.source_types.SourceType.{SourceType}
use Rattle.request_machine.specs.Charges.{after_charges, book_of, budget_of, with_book}
use Rattle.request_machine.specs.Named.{source_name}
use Rattle.request_machine.specs.State.{SourceState, type_of, types_of}
use Rattle.session_data.specs.Held.{source_of, sources_of}
use Rattle.session_data.proofs.HeldLemmas.{AreOne, AreOne-rest, no_budget, no_dataset}

-- sources of these budgets have them
pub book_of-sources_of : (types : List SourceType) (As : List Dataset) (bs : List Budget) → AreOne types As bs → book_of (sources_of types As bs) ≡ bs
book_of-sources_of [] As [] h = refl
book_of-sources_of [] As (b ∷ bs) h = absurd (omega (arith, h.budgets))
book_of-sources_of (t ∷ types) [] bs h = no_dataset t types bs h
book_of-sources_of (t ∷ types) (A ∷ As) [] h = no_budget t types (A ∷ As) h
book_of-sources_of (t ∷ types) (A ∷ As) (b ∷ bs) h = ap (λ book. b ∷ book) (book_of-sources_of types As bs (AreOne-rest t types A As b bs h))

-- other budgets take their place
pub with_book-sources_of : (types : List SourceType) (As : List Dataset) (bs new : List Budget) → AreOne types As bs → length new ≡ length bs
    → with_book (sources_of types As bs) new ≡ sources_of types As new
with_book-sources_of [] As bs new h same = refl
with_book-sources_of (t ∷ types) [] bs new h same = no_dataset t types bs h
with_book-sources_of (t ∷ types) (A ∷ As) [] new h same = no_budget t types (A ∷ As) h
with_book-sources_of (t ∷ types) (A ∷ As) (b ∷ bs) [] h same = absurd (omega (arith, same))
with_book-sources_of (t ∷ types) (A ∷ As) (b ∷ bs) (c ∷ new) h same =
    ap (λ sources. source_of t A c ∷ sources) (with_book-sources_of types As bs new (AreOne-rest t types A As b bs h) (omega (arith, same)))

length-charged_from : (place : ℕ) (book : List Budget) (asks : List Ask) → length (charged_from place book asks) ≡ length book
length-charged_from place [] asks = refl
length-charged_from place (b ∷ book) asks = ap suc (length-charged_from (place + 1) book asks)

-- sources whose budgets are charged
pub sources_of-charged : (types : List SourceType) (As : List Dataset) (bs : List Budget) (asks : List Ask) → AreOne types As bs
    → sources_of types As (charged bs asks) ≡ after_charges (sources_of types As bs) asks
sources_of-charged types As bs asks h =
    sym (with_book-sources_of types As bs (charged bs asks) h (length-charged_from 0 bs asks))
    ∙ ap (λ (book : List Budget). with_book (sources_of types As bs) (charged book asks)) (sym (book_of-sources_of types As bs h))

pub length-book : (book : List Budget) (asks : List Ask) → length (charged book asks) ≡ length book
length-book book asks = length-charged_from 0 book asks

-- the name of the source at a place
pub name_here : (sources : List SourceState) (i : ℕ) (t : SourceType) → slice_get (types_of sources) i ≡ Some t → slice_index_or (map source_name sources) i [] ≡ t.name
name_here [] i t e = cc
name_here (source ∷ sources) zero t e = let same : type_of source ≡ t = cc in ap (λ (u : SourceType). u.name) same
name_here (source ∷ sources) (suc i) t e = name_here sources i t e

-- an ask is of a source that is there
pub AreAsks-here : (lowest count : ℕ) (asks : List Ask) (i : ℕ) (d : Ask) → i < length asks → AreAsksFrom lowest count asks → (get_or asks i d).source < count
AreAsks-here lowest count [] i d lt h = absurd (omega (arith, lt))
AreAsks-here lowest count (ask ∷ asks) zero d lt h = h.1
AreAsks-here lowest count (ask ∷ asks) (suc i) d lt h = AreAsks-here (ask.source + 1) count asks i d (omega (arith, lt)) h.3

-- the budget of the source at a place
pub total_here : (sources : List SourceState) (i : ℕ) (s : SourceState) → slice_get sources i ≡ Some s → total_at (book_of sources) i ≡ s.total
total_here [] i s e = cc
total_here (source ∷ sources) zero s e = let same : source ≡ s = cc in ap (λ (u : SourceState). u.total) same
total_here (source ∷ sources) (suc i) s e = total_here sources i s e

pub spent_here : (sources : List SourceState) (i : ℕ) (s : SourceState) → slice_get sources i ≡ Some s → spent_at (book_of sources) i ≡ s.spent
spent_here [] i s e = cc
spent_here (source ∷ sources) zero s e = let same : source ≡ s = cc in ap (λ (u : SourceState). u.spent) same
spent_here (source ∷ sources) (suc i) s e = spent_here sources i s e
