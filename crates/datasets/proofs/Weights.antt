-- The weights of datasets that are made from others.
use Rattle.std.specs.Prelude.{◌≡◌, ◌≢◌, ◌||◌, Bool, true, false, cond, [], ◌∷◌, Some, refl, unwrap_or}
use Rattle.std.specs.List.Sorted.{IsStrictlySortedBy}
use Rattle.std.specs.Map.{lookup}
use Rattle.std.specs.Ordering.{is_eq, match_ordering}
use Rattle.std.specs.declared.cmp.Ordering.TheVariants.{Less, Equal, Greater}
use Rattle.std.proofs.Common.{sym, ap, subst, ◌∙◌, true≢false}
use Rattle.std.proofs.lemmas.Bool.{or_parts}
use Rattle.ratios.specs.Ratio.{Ratio, ratio_add, zero_ratio}
use Rattle.record_text.specs.Order.{row_cmp}
use Rattle.record_text.specs.OrderLaws.{row_tie}
use Rattle.datasets.specs.Entries.{Row, same_row, has_row, Entries, rows_of, AreRising, NoneZero, weight_in, is_zero, in_front, set_in}
use Rattle.datasets.specs.Kept.{IsBelow, IsBelow-lower}
use Rattle.datasets.specs.Dataset.{Dataset, at, rows, empty, set_at, add_at, dataset_of}
use Rattle.datasets.proofs.Rows.{same_row-equal, zero_if_is_zero}

-- the weight in entries, by the first of them
pub weight_in-cons : (x : Row) (e : Row × Ratio) (es : Entries) → weight_in (e ∷ es) x ≡ cond (same_row x e.0) e.1 (weight_in es x)
weight_in-cons x e es = first (same_row x e.0)
  where
    first : (b : Bool) → unwrap_or (cond b (Some e.1) (lookup (same_row x) es)) zero_ratio ≡ cond b e.1 (weight_in es x)
    first true = refl
    first false = refl

-- a row that has no entry weighs 0
pub weight_in-absent : (es : Entries) (x : Row) → has_row (rows_of es) x ≡ false → weight_in es x ≡ zero_ratio
weight_in-absent [] x h = refl
weight_in-absent (e ∷ es) x h =
    let p = or_parts (same_row x e.0) (has_row (rows_of es) x) h in
    weight_in-cons x e es ∙ ap (λ b. cond b e.1 (weight_in es x)) p.0 ∙ weight_in-absent es x p.1

pub at-absent : (A : Dataset) (x : Row) → has_row (rows A) x ≡ false → at A x ≡ zero_ratio
at-absent A x h = weight_in-absent A.entries x h

-- a row below all of them has no entry
pub weight_in-below : (x : Row) (es : Entries) → IsBelow x es → weight_in es x ≡ zero_ratio
weight_in-below x [] h = refl
weight_in-below x (e ∷ es) h = weight_in-cons x e es ∙ ap (λ o. cond (is_eq o) e.1 (weight_in es x)) h.0 ∙ weight_in-below x es h.1

-- the same of a row that ties with such a row
absent : (x y : Row) (es : Entries) → IsBelow x es → same_row y x ≡ true → weight_in es y ≡ zero_ratio
absent x y es h e = subst (λ z. weight_in es z ≡ zero_ratio) (sym (same_row-equal y x e)) (weight_in-below x es h)

weight_in-in_front : (x y : Row) (w : Ratio) (es : Entries) → IsBelow x es → weight_in (in_front x w es) y ≡ cond (same_row y x) w (weight_in es y)
weight_in-in_front x y w es h =
    elim (is_zero w) as (λ b. is_zero w ≡ b → weight_in (cond b es ((x, w) ∷ es)) y ≡ cond (same_row y x) w (weight_in es y)) [
      | true ↦ λ p. left_out (same_row y x) (λ e. absent x y es h e ∙ sym (zero_if_is_zero w p))
      | false ↦ λ p. weight_in-cons y (x, w) es
    ] refl
  where
    left_out : (b : Bool) → (b ≡ true → weight_in es y ≡ w) → weight_in es y ≡ cond b w (weight_in es y)
    left_out true k = k refl
    left_out false k = refl

-- what stands second comes before what stands first, where both tests can't pass
swapped : (a b : Bool) (v w q : Ratio) → (b ≡ true → a ≡ false) → cond a v (cond b w q) ≡ cond b w (cond a v q)
swapped true true v w q h = ap (λ c. cond c v w) (h refl)
swapped true false v w q h = refl
swapped false b v w q h = refl

not_both : (x y z : Row) → row_cmp x z ≡ Greater → same_row y x ≡ true → same_row y z ≡ false
not_both x y z p e = subst (λ t. same_row t z ≡ false) (sym (same_row-equal y x e)) (ap is_eq p)

-- an entry is replaced
replaced : (b : Bool) (w v q : Ratio) → cond b w q ≡ cond b w (cond b v q)
replaced true w v q = refl
replaced false w v q = refl

pub weight_in-set_in : (x y : Row) (w : Ratio) (es : Entries) → AreRising (rows_of es) → weight_in (set_in x w es) y ≡ cond (same_row y x) w (weight_in es y)
unfolding IsStrictlySortedBy
weight_in-set_in x y w [] h = weight_in-in_front x y w [] tt
weight_in-set_in x y w (e ∷ es) h =
    elim (row_cmp x e.0) as (λ o. row_cmp x e.0 ≡ o → weight_in (match_ordering o (in_front x w (e ∷ es)) (in_front e.0 w es) (e ∷ set_in x w es)) y ≡ cond (same_row y x) w (weight_in (e ∷ es) y)) [
      | Less ↦ λ p. weight_in-in_front x y w (e ∷ es) (p, IsBelow-lower x e.0 es p h.0)
      | Equal ↦ λ p.
          weight_in-in_front e.0 y w es h.0
          ∙ replaced (same_row y e.0) w e.1 (weight_in es y)
          ∙ ap (cond (same_row y e.0) w) (sym (weight_in-cons y e es))
          ∙ ap (λ z. cond (same_row y z) w (weight_in (e ∷ es) y)) (sym (row_tie x e.0 p))
      | Greater ↦ λ p.
          weight_in-cons y e (set_in x w es)
          ∙ ap (cond (same_row y e.0) e.1) (weight_in-set_in x y w es h.1)
          ∙ swapped (same_row y e.0) (same_row y x) e.1 w (weight_in es y) (not_both x y e.0 p)
          ∙ ap (cond (same_row y x) w) (sym (weight_in-cons y e es))
    ] refl

pub at-empty : (x : Row) → at empty x ≡ zero_ratio
unfolding empty
at-empty x = refl

pub at-set_at : (x : Row) (w : Ratio) (A : Dataset) (y : Row) → at (set_at x w A) y ≡ cond (same_row y x) w (at A y)
unfolding set_at
at-set_at x w A y = weight_in-set_in x y w A.entries A.rising

pub at-add_at : (x : Row) (w : Ratio) (A : Dataset) (y : Row) → at (add_at x w A) y ≡ cond (same_row y x) (ratio_add (at A y) w) (at A y)
at-add_at x w A y = at-set_at x (ratio_add (at A x) w) A y ∙ same_place (same_row y x) (same_row-equal y x)
  where
    same_place : (b : Bool) → (b ≡ true → y ≡ x) → cond b (ratio_add (at A x) w) (at A y) ≡ cond b (ratio_add (at A y) w) (at A y)
    same_place true h = ap (λ z. ratio_add (at A z) w) (sym (h refl))
    same_place false h = refl

pub at-dataset_of : (es : Entries) (x : Row) → at (dataset_of es) x ≡ weight_in es x
unfolding dataset_of
at-dataset_of [] x = at-empty x
at-dataset_of (e ∷ es) x = at-set_at e.0 e.1 (dataset_of es) x ∙ ap (cond (same_row x e.0) e.1) (at-dataset_of es x) ∙ sym (weight_in-cons x e es)

-- ---- the rows that are there

-- a row of entries without zeros has a weight other than 0
weight_in-present : (es : Entries) (x : Row) → NoneZero es → has_row (rows_of es) x ≡ true → weight_in es x ≢ zero_ratio
weight_in-present [] x n h z = true≢false (sym h)
weight_in-present (e ∷ es) x n h z =
    (elim (same_row x e.0) as (λ b. (b || has_row (rows_of es) x) ≡ true → cond b e.1 (weight_in es x) ≡ zero_ratio → ⊥) [ true ↦ λ _ k. n.0 k | false ↦ λ p k. weight_in-present es x n.1 p k ])
    h (sym (weight_in-cons x e es) ∙ z)

pub at-present : (A : Dataset) (x : Row) → has_row (rows A) x ≡ true → at A x ≢ zero_ratio
at-present A x h = weight_in-present A.entries x A.none_zero h

pub there_if_weighed : (A : Dataset) (x : Row) → at A x ≢ zero_ratio → has_row (rows A) x ≡ true
there_if_weighed A x h = elim (has_row (rows A) x) as (λ b. has_row (rows A) x ≡ b → b ≡ true) [ true ↦ λ e. refl | false ↦ λ e. absurd (h (at-absent A x e)) ] refl
