-- The search for the first row that can't be looked up.
use Rattle.std.specs.Prelude.{◌≡◌, ℕ, suc, ◌+◌, ◌<◌, ◌≤◌, ◌↔◌, Bool, true, false, not, cond, ◌||◌, IsTrue, List, [], ◌∷◌, ◌++◌, length, take, drop, Option, Some, None, refl}
use Rattle.std.specs.Bool.{one_answer}
use Rattle.std.proofs.Common.{sym, ap, ap₂, ◌∙◌, arith, get_or, true≢false}
use Rattle.std.proofs.lemmas.List.Folds.{list_any-append}
use Rattle.std.proofs.lemmas.List.{take_more}
use Rattle.std.proofs.Math.Seq.{drop-cons}
use Rattle.std.proofs.Math.ListN.{drop_of_length-le}
use Rattle.record_text.specs.KindLists.{kinds_of, kinds_eq}
use Rattle.record_text.specs.declared.kinds.Kind.{Kind}
use Rattle.record_text.proofs.Equality.{kinds_decided}
use Rattle.datasets.specs.Entries.{Row, has_row, same_row}
use Rattle.datasets.proofs.Rows.{same_row-turned}
use Rattle.messages.specs.declared.refusal.Refusal.{Refusal}
use Rattle.messages.specs.declared.refusal.Refusal.TheVariants as refusal
use Rattle.request_machine.specs.LookUps.{first_row_fault}

-- ---- tests
-- what a row answers to whether it fits
pub fits_is : (b : Bool) (row : Row) (kinds : List Kind) → IsTrue b ↔ (kinds_of row ≡ kinds) → kinds_eq (kinds_of row) kinds ≡ b
fits_is b row kinds h = one_answer (kinds_eq (kinds_of row) kinds) b (kinds_decided (kinds_of row) kinds) h

-- a row that is no new one came before
pub before_if_not_new : (is_new is_before : Bool) → is_new ≡ not is_before → is_new ≡ false → is_before ≡ true
before_if_not_new is_new true e f = refl
before_if_not_new is_new false e f = absurd (true≢false (sym e ∙ f))

pub not_before_if_new : (is_new is_before : Bool) → is_new ≡ not is_before → is_new ≡ true → is_before ≡ false
not_before_if_new is_new true e f = absurd (true≢false (sym f ∙ e))
not_before_if_new is_new false e f = refl

-- ---- one row more
-- no row before place i is faulty
abbrev pub IsFaultlessBefore : List Kind → List Row → ℕ → Type 0
IsFaultlessBefore kinds rows i = first_row_fault kinds (take i rows) i (drop i rows) ≡ first_row_fault kinds [] 0 rows

module _ (kinds : List Kind) (rows : List Row) (i : ℕ) (row : Row) (below : i < length rows) (is : row ≡ get_or rows i row) (before : IsFaultlessBefore kinds rows i) where
  from_here : drop i rows ≡ row ∷ drop (i + 1) rows
  from_here =
      let k : suc i ≡ i + 1 = omega arith in
      drop-cons rows i row below ∙ ap (λ x. x ∷ drop (suc i) rows) (sym is) ∙ ap (λ j. row ∷ drop j rows) k

  abbrev past : Option Refusal
  past = first_row_fault kinds (take i rows ++ row ∷ []) (i + 1) (drop (i + 1) rows)

  abbrev if_it_fits : Option Refusal
  if_it_fits = cond (has_row (take i rows) row) (Some (refusal.Repeat i)) past

  tested : first_row_fault kinds [] 0 rows ≡ cond (not (kinds_eq (kinds_of row) kinds)) (Some (refusal.Row i)) if_it_fits
  tested = sym before ∙ ap (first_row_fault kinds (take i rows) i) from_here

  pub unfit_row : kinds_eq (kinds_of row) kinds ≡ false → first_row_fault kinds [] 0 rows ≡ Some (refusal.Row i)
  unfit_row f = tested ∙ ap (λ b. cond (not b) (Some (refusal.Row i)) if_it_fits) f

  fit_row : kinds_eq (kinds_of row) kinds ≡ true → first_row_fault kinds [] 0 rows ≡ if_it_fits
  fit_row e = tested ∙ ap (λ b. cond (not b) (Some (refusal.Row i)) if_it_fits) e

  pub repeated_row : kinds_eq (kinds_of row) kinds ≡ true → has_row (take i rows) row ≡ true → first_row_fault kinds [] 0 rows ≡ Some (refusal.Repeat i)
  repeated_row e h = fit_row e ∙ ap (λ b. cond b (Some (refusal.Repeat i)) past) h

  pub faultless_row : kinds_eq (kinds_of row) kinds ≡ true → has_row (take i rows) row ≡ false → IsFaultlessBefore kinds rows (i + 1)
  faultless_row e h =
      ap (λ before. first_row_fault kinds before (i + 1) (drop (i + 1) rows)) (take_more rows i row below ∙ ap (λ x. take i rows ++ x ∷ []) (sym is))
      ∙ sym (fit_row e ∙ ap (λ b. cond b (Some (refusal.Repeat i)) past) h)

  -- the rows before with this one are those before the next place
  pub row_noted : (noted now : List Row) → ((x : Row) → has_row now x ≡ cond (same_row row x) true (has_row noted x)) → ((x : Row) → has_row noted x ≡ has_row (take i rows) x)
      → (x : Row) → has_row now x ≡ has_row (take (i + 1) rows) x
  row_noted noted now put same x =
      put x ∙ ap₂ (λ a b. cond a true b) (same_row-turned row x) (same x)
      ∙ either (same_row x row) (has_row (take i rows) x)
      ∙ sym (list_any-append (same_row x) (take i rows) (row ∷ []))
      ∙ ap (λ xs. has_row xs x) (sym (take_more rows i row below ∙ ap (λ y. take i rows ++ y ∷ []) (sym is)))
    where
      either : (a b : Bool) → cond a true b ≡ (b || (a || false))
      either true true = refl
      either true false = refl
      either false true = refl
      either false false = refl

-- ---- the end
pub all_faultless : (kinds : List Kind) (rows : List Row) (i : ℕ) → length rows ≤ i → IsFaultlessBefore kinds rows i → first_row_fault kinds [] 0 rows ≡ None
all_faultless kinds rows i end before = sym before ∙ ap (first_row_fault kinds (take i rows) i) (drop_of_length-le rows end)
