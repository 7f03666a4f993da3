-- How many rows a dataset has, and which entries make one.
use Rattle.std.specs.Prelude.{ℕ, ◌+◌, ◌≡◌, Bool, true, false, not, cond, filter, [], ◌∷◌, length, refl}
use Rattle.std.specs.List.Sorted.{IsStrictlySortedBy}
use Rattle.std.specs.Ordering.{is_eq, match_ordering}
use Rattle.std.specs.declared.cmp.Ordering.TheVariants.{Less, Equal, Greater}
use Rattle.std.proofs.Common.{sym, ap, ◌∙◌, arith}
use Rattle.ratios.specs.Ratio.{Ratio, zero_ratio}
use Rattle.record_text.specs.Order.{row_cmp}
use Rattle.datasets.specs.Entries.{Row, same_row, Entries, rows_of, AreRising, NoneZero, weight_in, is_zero, row_count, in_front, set_in}
use Rattle.datasets.specs.Kept.{IsBelow, IsBelow-lower, is_zero-zero_ratio}
use Rattle.datasets.specs.Dataset.{Dataset, rows, at, empty, set_at, dataset_of}
use Rattle.datasets.proofs.Rows.{same_row-equal, is_zero-other}
use Rattle.datasets.proofs.Weights.{weight_in-cons, weight_in-below, at-set_at}
use Rattle.datasets.proofs.Equality.{same_weights}

-- a weight that is set to what it is
pub set_at-same : (x : Row) (A : Dataset) → set_at x (at A x) A ≡ A
set_at-same x A = same_weights (set_at x (at A x) A) A (λ y. at-set_at x (at A x) A y ∙ same_there (same_row y x) y (same_row-equal y x))
  where
    same_there : (b : Bool) (y : Row) → (b ≡ true → y ≡ x) → cond b (at A x) (at A y) ≡ at A y
    same_there true y h = ap (at A) (sym (h refl))
    same_there false y h = refl

-- ---- how many rows
abbrev count : Entries → ℕ
count es = length (rows_of es)

count-in_front : (x : Row) (w : Ratio) (es : Entries) → count (in_front x w es) ≡ count es + row_count w
count-in_front x w es = elim (is_zero w) as (λ b. count (cond b es ((x, w) ∷ es)) ≡ count es + cond b 0 1) [ true ↦ omega arith | false ↦ omega arith ]

row_count-zero : row_count zero_ratio ≡ 0
row_count-zero = ap (λ b. cond b 0 1) is_zero-zero_ratio

row_count-other : (w : Ratio) → (w ≡ zero_ratio → ⊥) → row_count w ≡ 1
row_count-other w n = ap (λ b. cond b 0 1) (is_zero-other w n)

count-set_in : (x : Row) (w : Ratio) (es : Entries) → AreRising (rows_of es) → NoneZero es → count (set_in x w es) + row_count (weight_in es x) ≡ count es + row_count w
unfolding IsStrictlySortedBy
count-set_in x w [] h n = let a = count-in_front x w [] in let b = row_count-zero in omega arith
count-set_in x w (e ∷ es) h n =
    elim (row_cmp x e.0) as (λ o. row_cmp x e.0 ≡ o → count (match_ordering o (in_front x w (e ∷ es)) (in_front e.0 w es) (e ∷ set_in x w es)) + row_count (weight_in (e ∷ es) x) ≡ count (e ∷ es) + row_count w) [
      | Less ↦ λ p.
          let a = count-in_front x w (e ∷ es) in
          let b : row_count (weight_in (e ∷ es) x) ≡ 0 = ap row_count (weight_in-below x (e ∷ es) (p, IsBelow-lower x e.0 es p h.0)) ∙ row_count-zero in
          omega arith
      | Equal ↦ λ p.
          let a = count-in_front e.0 w es in
          let b : row_count (weight_in (e ∷ es) x) ≡ 1 = ap row_count (weight_in-cons x e es ∙ ap (λ o. cond (is_eq o) e.1 (weight_in es x)) p) ∙ row_count-other e.1 n.0 in
          omega arith
      | Greater ↦ λ p.
          let a : row_count (weight_in (e ∷ es) x) ≡ row_count (weight_in es x) = ap row_count (weight_in-cons x e es ∙ ap (λ o. cond (is_eq o) e.1 (weight_in es x)) p) in
          let b = count-set_in x w es h.1 n.1 in
          omega arith
    ] refl

pub length-set_at : (x : Row) (w : Ratio) (A : Dataset) → length (rows (set_at x w A)) + row_count (at A x) ≡ length (rows A) + row_count w
unfolding set_at
length-set_at x w A = count-set_in x w A.entries A.rising A.none_zero

-- ---- which entries make a dataset
-- the entries whose weight isn't 0
abbrev pub weighing : Entries → Entries
weighing es = filter (λ e. not (is_zero e.1)) es

set_in-below : (x : Row) (w : Ratio) (es : Entries) → IsBelow x es → set_in x w es ≡ in_front x w es
set_in-below x w [] h = refl
set_in-below x w (e ∷ es) h = ap (λ o. match_ordering o (in_front x w (e ∷ es)) (in_front e.0 w es) (e ∷ set_in x w es)) h.0

IsBelow-weighing : (x : Row) (es : Entries) → IsBelow x es → IsBelow x (weighing es)
IsBelow-weighing x [] h = tt
IsBelow-weighing x (e ∷ es) h =
    elim (is_zero e.1) as (λ b. IsBelow x (cond (not b) (e ∷ weighing es) (weighing es))) [ true ↦ IsBelow-weighing x es h.1 | false ↦ (h.0, IsBelow-weighing x es h.1) ]

in_front-weighing : (x : Row) (w : Ratio) (es : Entries) → in_front x w (weighing es) ≡ weighing ((x, w) ∷ es)
in_front-weighing x w es = elim (is_zero w) as (λ b. cond b (weighing es) ((x, w) ∷ weighing es) ≡ cond (not b) ((x, w) ∷ weighing es) (weighing es)) [ true ↦ refl | false ↦ refl ]

pub entries-dataset_of : (es : Entries) → AreRising (rows_of es) → (dataset_of es).entries ≡ weighing es
unfolding IsStrictlySortedBy dataset_of empty set_at
entries-dataset_of [] h = refl
entries-dataset_of (e ∷ es) h =
    ap (set_in e.0 e.1) (entries-dataset_of es h.1)
    ∙ set_in-below e.0 e.1 (weighing es) (IsBelow-weighing e.0 es h.0)
    ∙ in_front-weighing e.0 e.1 es
