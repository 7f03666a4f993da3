-- Two datasets row by row, by one walk over the entries of both.
use Rattle.std.specs.Prelude.{◌≡◌, List, [], ◌∷◌, map, refl}
use Rattle.std.specs.List.Sorted.{IsStrictlySortedBy}
use Rattle.std.specs.Ordering.{is_eq, match_ordering, ordering_reverse}
use Rattle.std.specs.declared.cmp.Ordering.TheVariants.{Less, Equal, Greater}
use Rattle.std.proofs.Common.{sym, ap, ap₂, subst, ◌∙◌, cond}
use Rattle.ratios.specs.Ratio.{Ratio, zero_ratio}
use Rattle.record_text.specs.Order.{row_cmp}
use Rattle.record_text.specs.OrderLaws.{row_total, row_tie}
use Rattle.datasets.specs.Dataset.{with_row, with_rows}
use Rattle.datasets.specs.Entries.{Row, Entries, AreRising, rows_of, weight_in}
use Rattle.datasets.specs.Kept.{IsBelow-lower, less_turned}
use Rattle.datasets.proofs.Rows.{same_row-itself, same_row-turned}
use Rattle.datasets.proofs.Weights.{weight_in-cons, weight_in-below}
use Rattle.weighted_set.specs.Merging.{merged, merged_past}
use Rattle.weighted_set.proofs.Parts.{IsBelowRows}

-- ---- rows above a row
above-with_row : (x y : Row) (ys : List Row) → row_cmp x y ≡ Less → IsBelowRows x ys → IsBelowRows x (with_row y ys)
above-with_row x y [] p h = (p, tt)
above-with_row x y (z ∷ zs) p h =
    elim (row_cmp y z) as (λ o. IsBelowRows x (match_ordering o (y ∷ z ∷ zs) (z ∷ zs) (z ∷ with_row y zs))) [
      | Less ↦ (p, h)
      | Equal ↦ h
      | Greater ↦ (h.0, above-with_row x y zs p h.1)
    ]

above-with_rows : (x : Row) (ys zs : List Row) → IsBelowRows x ys → IsBelowRows x zs → IsBelowRows x (with_rows ys zs)
above-with_rows x [] zs h k = k
above-with_rows x (y ∷ ys) zs h k = above-with_row x y (with_rows ys zs) h.0 (above-with_rows x ys zs h.1 k)

-- a row below all others comes first
with_row-first : (x : Row) (ys : List Row) → IsBelowRows x ys → with_row x ys ≡ x ∷ ys
with_row-first x [] h = refl
with_row-first x (y ∷ ys) h = ap (λ o. match_ordering o (x ∷ y ∷ ys) (y ∷ ys) (y ∷ with_row x ys)) h.0

greater_turned : (x y : Row) → row_cmp x y ≡ Less → row_cmp y x ≡ Greater
greater_turned x y p = row_total.antisymm y x ∙ ap ordering_reverse p

with_rows-first : (y : Row) (xs ys : List Row) → IsBelowRows y xs → with_rows xs (y ∷ ys) ≡ y ∷ with_rows xs ys
with_rows-first y [] ys h = refl
with_rows-first y (x ∷ xs) ys h =
    let rest = with_rows xs ys in
    ap (with_row x) (with_rows-first y xs ys h.1)
    ∙ ap (λ o. match_ordering o (x ∷ y ∷ rest) (y ∷ rest) (y ∷ with_row x rest)) (greater_turned y x h.0)

-- ---- the weights of rows above the first entry
weight_past : (e : Row × Ratio) (es : Entries) (x : Row) → row_cmp e.0 x ≡ Less → weight_in (e ∷ es) x ≡ weight_in es x
weight_past e es x p = weight_in-cons x e es ∙ ap (λ b. cond b e.1 (weight_in es x)) (same_row-turned x e.0 ∙ ap is_eq p)

weight_first : (e : Row × Ratio) (es : Entries) → weight_in (e ∷ es) e.0 ≡ e.1
weight_first e es = weight_in-cons e.0 e es ∙ ap (λ b. cond b e.1 (weight_in es e.0)) (same_row-itself e.0)

map-above : {X : Type 0} (x : Row) (f g : Row → X) (xs : List Row) → ((y : Row) → row_cmp x y ≡ Less → f y ≡ g y) → IsBelowRows x xs → map f xs ≡ map g xs
map-above x f g [] h k = refl
map-above x f g (y ∷ ys) h k = ap₂ (λ q qs. q ∷ qs) (h y k.0) (map-above x f g ys h k.1)

module _ {X : Type 0} (f : Row → Ratio → Ratio → X) where
  -- what f gives of a row and of its weights in two lists
  abbrev pub given_at : Entries → Entries → Row → X
  given_at es gs x = f x (weight_in es x) (weight_in gs x)

  -- the walk gives it of the rows of either list
  abbrev pub WalksTo : Entries → Entries → Type 0
  WalksTo es gs = map (given_at es gs) (with_rows (rows_of es) (rows_of gs)) ≡ merged f es gs

  right_alone : (gs : Entries) → AreRising (rows_of gs) → WalksTo [] gs
  unfolding IsStrictlySortedBy
  right_alone [] h = refl
  right_alone (g ∷ gs) h =
      ap₂ (λ q qs. q ∷ qs) (ap (f g.0 zero_ratio) (weight_first g gs))
      (map-above g.0 (given_at [] (g ∷ gs)) (given_at [] gs) (rows_of gs) (λ y p. ap (f y zero_ratio) (weight_past g gs y p)) h.0 ∙ right_alone gs h.1)

  module _ (e : Row × Ratio) (es : Entries) (above : IsBelowRows e.0 (rows_of es)) (walk : (gs : Entries) → AreRising (rows_of gs) → WalksTo es gs) where
    -- the first row is below the second list
    first_below : (gs : Entries) → IsBelowRows e.0 (rows_of gs) → AreRising (rows_of gs)
        → map (given_at (e ∷ es) gs) (with_rows (e.0 ∷ rows_of es) (rows_of gs)) ≡ f e.0 e.1 zero_ratio ∷ merged f es gs
    first_below gs below h =
        let rest = with_rows (rows_of es) (rows_of gs) in
        let after = above-with_rows e.0 (rows_of es) (rows_of gs) above below in
        ap (map (given_at (e ∷ es) gs)) (with_row-first e.0 rest after)
        ∙ ap₂ (λ q qs. q ∷ qs) (ap₂ (f e.0) (weight_first e es) (weight_in-below e.0 gs below))
        (map-above e.0 (given_at (e ∷ es) gs) (given_at es gs) rest (λ y p. ap (λ q. f y q (weight_in gs y)) (weight_past e es y p)) after ∙ walk gs h)

    module _ (g : Row × Ratio) (gs : Entries) (over : IsBelowRows g.0 (rows_of gs)) where
      -- both lists begin with one row
      first_same : e.0 ≡ g.0 → AreRising (rows_of gs) → map (given_at (e ∷ es) (g ∷ gs)) (g.0 ∷ with_rows (rows_of es) (rows_of gs)) ≡ f e.0 e.1 g.1 ∷ merged f es gs
      first_same same h =
          let rest = with_rows (rows_of es) (rows_of gs) in
          let after = above-with_rows g.0 (rows_of es) (rows_of gs) (subst (λ x. IsBelowRows x (rows_of es)) same above) over in
          ap₂ (λ q qs. q ∷ qs)
          (ap₂ (f g.0) (ap (weight_in (e ∷ es)) (sym same) ∙ weight_first e es) (weight_first g gs) ∙ ap (λ x. f x e.1 g.1) (sym same))
          (map-above g.0 (given_at (e ∷ es) (g ∷ gs)) (given_at es gs) rest
          (λ y p. ap₂ (f y) (weight_past e es y (subst (λ x. row_cmp x y ≡ Less) (sym same) p)) (weight_past g gs y p)) after ∙ walk gs h)

      -- the second list's first row is below the first list
      second_below : row_cmp g.0 e.0 ≡ Less → (xs : List X) → map (given_at (e ∷ es) gs) (with_row e.0 (with_rows (rows_of es) (rows_of gs))) ≡ xs
          → map (given_at (e ∷ es) (g ∷ gs)) (g.0 ∷ with_row e.0 (with_rows (rows_of es) (rows_of gs))) ≡ f g.0 zero_ratio g.1 ∷ xs
      second_below p xs ih =
          let rest = with_row e.0 (with_rows (rows_of es) (rows_of gs)) in
          let below = IsBelow-lower g.0 e.0 es p above in
          let after = above-with_row g.0 e.0 (with_rows (rows_of es) (rows_of gs)) p (above-with_rows g.0 (rows_of es) (rows_of gs) below over) in
          ap₂ (λ q qs. q ∷ qs) (ap₂ (f g.0) (weight_in-below g.0 (e ∷ es) (p, below)) (weight_first g gs))
          (map-above g.0 (given_at (e ∷ es) (g ∷ gs)) (given_at (e ∷ es) gs) rest (λ y p. ap (f y (weight_in (e ∷ es) y)) (weight_past g gs y p)) after ∙ ih)

    walk_past : (gs : Entries) → AreRising (rows_of gs) → WalksTo (e ∷ es) gs
    unfolding IsStrictlySortedBy
    walk_past [] h = first_below [] tt h
    walk_past (g ∷ gs) h =
        let rest = with_rows (rows_of es) (rows_of gs) in
        elim (row_cmp e.0 g.0) as (λ o. row_cmp e.0 g.0 ≡ o
        → map (given_at (e ∷ es) (g ∷ gs)) (with_rows (e.0 ∷ rows_of es) (g.0 ∷ rows_of gs))
        ≡ match_ordering o (f e.0 e.1 zero_ratio ∷ merged f es (g ∷ gs)) (f e.0 e.1 g.1 ∷ merged f es gs) (f g.0 zero_ratio g.1 ∷ merged_past f e (merged f es) gs)) [
          | Less ↦ λ p. first_below (g ∷ gs) (p, IsBelow-lower e.0 g.0 gs p h.0) h
          | Equal ↦ λ p.
              let same = row_tie e.0 g.0 p in
              ap (λ xs. map (given_at (e ∷ es) (g ∷ gs)) (with_row e.0 xs)) (with_rows-first g.0 (rows_of es) (rows_of gs) (subst (λ x. IsBelowRows x (rows_of es)) same above))
              ∙ ap (λ o. map (given_at (e ∷ es) (g ∷ gs)) (match_ordering o (e.0 ∷ g.0 ∷ rest) (g.0 ∷ rest) (g.0 ∷ with_row e.0 rest))) p
              ∙ first_same g gs h.0 same h.1
          | Greater ↦ λ p.
              let less = less_turned e.0 g.0 p in
              ap (λ xs. map (given_at (e ∷ es) (g ∷ gs)) (with_row e.0 xs)) (with_rows-first g.0 (rows_of es) (rows_of gs) (IsBelow-lower g.0 e.0 es less above))
              ∙ ap (λ o. map (given_at (e ∷ es) (g ∷ gs)) (match_ordering o (e.0 ∷ g.0 ∷ rest) (g.0 ∷ rest) (g.0 ∷ with_row e.0 rest))) p
              ∙ second_below g gs h.0 less (merged_past f e (merged f es) gs) (walk_past gs h.1)
        ] refl

  pub walk_all : (es gs : Entries) → AreRising (rows_of es) → AreRising (rows_of gs) → WalksTo es gs
  unfolding IsStrictlySortedBy
  walk_all [] gs h k = right_alone gs k
  walk_all (e ∷ es) gs h k = walk_past e es h.0 (λ fs. walk_all es fs h.1) gs k
