-- The pieces of one row.
use Rattle.std.specs.Prelude.{ℕ, zero, suc, ◌+◌, ◌<◌, ◌≡◌, pos, Bool, true, false, cond, int_lt, not, ◌&&◌, ◌||◌, List, [], ◌∷◌, ◌++◌, length, map, slice_index_or, take, Option, refl}
use Rattle.std.specs.List.{AllByRecursion, list_all, range_with_len}
use Rattle.std.specs.List.Sorted.{IsStrictlySortedBy}
use Rattle.std.specs.Ordering.{ordering_then}
use Rattle.std.specs.declared.cmp.Ordering.TheVariants.{Less, Equal, Greater}
use Rattle.std.proofs.Common.{add-one, arith, sym, ap, ap₂, subst, ◌∙◌, true≢false}
use Rattle.std.proofs.lemmas.Bool.{and_from, and_left, lt-ltb}
use Rattle.std.proofs.lemmas.Cmp.{tied_itself}
use Rattle.std.proofs.lemmas.List.{append-nil}
use Rattle.std.proofs.lemmas.List.Folds.{list_all-map}
use Rattle.ratios.specs.Range.{InRange, in_range}
use Rattle.ratios.specs.Ratio.{Ratio, is_below, ratio_max, ratio_min, ratio_sub, zero_ratio}
use Rattle.ratios.specs.Sums.{ratio_sum}
use Rattle.ratios.proofs.SumLaws.{ratio_sum-cons}
use Rattle.record_text.specs.Order.{row_cmp}
use Rattle.record_text.specs.OrderLaws.{atom_total}
use Rattle.datasets.specs.Entries.{AreRising, Entries, Row, is_zero, rows_of, weight_in}
use Rattle.datasets.proofs.Counts.{weighing}
use Rattle.datasets.proofs.Rows.{same_row-itself, zero_if_is_zero}
use Rattle.datasets.specs.Kept.{is_zero-zero_ratio}
use Rattle.datasets.proofs.Weights.{weight_in-cons}
use Rattle.operators.specs.InRange.{left_before, shave_in_range, weights_in_range}
use Rattle.operators.specs.Operators.{numbered, piece, shaved}
use Rattle.operators.specs.Weights.{collected, gathered, pairs}
use Rattle.weighted_set.proofs.Sets.{InRange-zero}
use Rattle.op_parts.specs.OneRow.{one_row}
use Rattle.op_parts.proofs.OneRows.{entries-empty, entries-one_row}
use Rattle.op_parts.proofs.Ranges.{weights_in_range-all}
use Rattle.op_shave.specs.Shave.{shave_fits}
use Rattle.op_shave.specs.Shavings.{AreShaved, left_in_range, left_of, shavings}
use Rattle.op_shave.proofs.Above.{AllAbove, above_not_zero, is_below-itself, left_of-more, left_of-none, left_of-taken, not_below, ratio_max-above, ratio_max-none, ratio_min-above, ratio_min-none}
use Rattle.op_parts.proofs.Collected.{entries-collected, weight_in-in_range}
use Rattle.op_shave.proofs.Differences.{above_difference, ratio_sub_add, ratio_sub_zero}
use Rattle.op_shave.proofs.Walks.{left_in_range-none, shavings-none}

-- ---- lists over a range
map_everywhere : {X Y : Type 0} (f g : X → Y) (xs : List X) → ((x : X) → f x ≡ g x) → map f xs ≡ map g xs
map_everywhere f g xs h = λ t. map (λ x. h x t) xs

map-map : {X Y Z : Type 0} (g : Y → Z) (f : X → Y) (xs : List X) → map g (map f xs) ≡ map (λ x. g (f x)) xs
map-map g f [] = refl
map-map g f (x ∷ xs) = ap (λ zs. g (f x) ∷ zs) (map-map g f xs)

map-range-next : {X : Type 0} (g : ℕ → X) (a n : ℕ) → map g (range_with_len (a + 1) n) ≡ map (λ i. g (suc i)) (range_with_len a n)
map-range-next g a zero = refl
map-range-next g a (suc n) = ap₂ (λ x xs. x ∷ xs) (ap g (add-one a)) (map-range-next g (a + 1) n)

-- ---- what is left before each piece, and each piece, from the front

left_before-first : (fs : List Ratio) (w : Ratio) → left_before fs w 0 ≡ w
left_before-first fs w = ratio_sub_zero w

left_before-next : (f : Ratio) (fs : List Ratio) (w : Ratio) (i : ℕ) → left_before (f ∷ fs) w (suc i) ≡ left_before fs (ratio_sub w f) i
left_before-next f fs w i = ap (ratio_sub w) (ratio_sum-cons f (take i fs)) ∙ ratio_sub_add w f (ratio_sum (take i fs))

-- what is left before each piece, also where it is below 0
abbrev lefts : List Ratio → Ratio → List Ratio
lefts [] w = []
lefts (f ∷ fs) w = w ∷ lefts fs (ratio_sub w f)

lefts-are : (fs : List Ratio) (w : Ratio) → map (left_before fs w) (range_with_len 0 (length fs)) ≡ lefts fs w
lefts-are [] w = refl
lefts-are (f ∷ fs) w =
    ap₂ (λ x xs. x ∷ xs) (left_before-first (f ∷ fs) w)
    (map-range-next (left_before (f ∷ fs) w) 0 (length fs)
    ∙ map_everywhere (λ i. left_before (f ∷ fs) w (suc i)) (left_before fs (ratio_sub w f)) (range_with_len 0 (length fs)) (left_before-next f fs w)
    ∙ lefts-are fs (ratio_sub w f))

-- the pieces, 0 where nothing is left
abbrev parts : List Ratio → Ratio → List Ratio
parts [] w = []
parts (f ∷ fs) w = ratio_max zero_ratio (ratio_min f w) ∷ parts fs (ratio_sub w f)

parts-are : (fs : List Ratio) (w : Ratio) → map (piece fs w) (range_with_len 0 (length fs)) ≡ parts fs w
parts-are [] w = refl
parts-are (f ∷ fs) w =
    ap₂ (λ x xs. x ∷ xs) (ap (λ q. ratio_max zero_ratio (ratio_min f q)) (left_before-first (f ∷ fs) w))
    (map-range-next (piece (f ∷ fs) w) 0 (length fs)
    ∙ map_everywhere (λ i. piece (f ∷ fs) w (suc i)) (piece fs (ratio_sub w f)) (range_with_len 0 (length fs))
    (λ i. ap (λ q. ratio_max zero_ratio (ratio_min (slice_index_or fs i zero_ratio) q)) (left_before-next f fs w i))
    ∙ parts-are fs (ratio_sub w f))

-- ---- weights at x followed by the places from a on
abbrev placed : Row → ℕ → List Ratio → Entries
placed x a [] = []
placed x a (v ∷ vs) = (numbered (x, a), v) ∷ placed x (a + 1) vs

placed-are : (x : Row) (g : ℕ → Ratio) (a n : ℕ) → map (λ i. (numbered (x, i), g i)) (range_with_len a n) ≡ placed x a (map g (range_with_len a n))
placed-are x g a zero = refl
placed-are x g a (suc n) = ap (λ es. (numbered (x, a), g a) ∷ es) (placed-are x g (a + 1) n)

numbered-less : (x : Row) (a b : ℕ) → a < b → row_cmp (numbered (x, a)) (numbered (x, b)) ≡ Less
numbered-less [] a b h = ap (λ t. ordering_then (cond t Less (cond (int_lt (pos b) (pos a)) Greater Equal)) Equal) (lt-ltb a b h)
numbered-less (c ∷ x) a b h = ap (λ o. ordering_then o (row_cmp (numbered (x, a)) (numbered (x, b)))) (tied_itself atom_total c) ∙ numbered-less x a b h

placed-above : (x : Row) (a b : ℕ) (vs : List Ratio) → a < b → AllByRecursion (λ y. row_cmp (numbered (x, a)) y ≡ Less) (rows_of (placed x b vs))
placed-above x a b [] h = tt
placed-above x a b (v ∷ vs) h = (numbered-less x a b h, placed-above x a (b + 1) vs (omega arith))

placed-rising : (x : Row) (a : ℕ) (vs : List Ratio) → AreRising (rows_of (placed x a vs))
unfolding IsStrictlySortedBy
placed-rising x a [] = tt
placed-rising x a (v ∷ vs) = (placed-above x a (a + 1) vs (omega arith), placed-rising x (a + 1) vs)

-- ---- the pieces above 0 are those that a walk gives

none_left : (w f : Ratio) → is_below f w ≡ false → is_below zero_ratio (ratio_sub w f) ≡ false
none_left w f h = above_difference w f ∙ h

-- a walk goes on from what is left as from the difference
shavings-left : (x : Row) (a : ℕ) (fs : List Ratio) (w f : Ratio) → is_below zero_ratio w ≡ true → shavings x a fs (ratio_sub w f) ≡ shavings x a fs (left_of w f)
shavings-left x a fs w f above =
    elim (is_below f w) as (λ b. is_below f w ≡ b → shavings x a fs (ratio_sub w f) ≡ shavings x a fs (left_of w f)) [
      | true ↦ λ h. ap (shavings x a fs) (sym (left_of-more w f above h))
      | false ↦ λ h.
          shavings-none x a fs (ratio_sub w f) (none_left w f h)
          ∙ sym (shavings-none x a fs (left_of w f) (ap (is_below zero_ratio) (left_of-taken w f h) ∙ is_below-itself zero_ratio))
    ] refl

weighing-parts : (x : Row) (a : ℕ) (fs : List Ratio) (w : Ratio) → AllAbove fs → weighing (placed x a (parts fs w)) ≡ shavings x a fs w
weighing-parts x a [] w all = refl
weighing-parts x a (f ∷ fs) w all =
    let later = weighing (placed x (a + 1) (parts fs (ratio_sub w f))) in
    let first : Ratio → Entries = λ v. cond (not (is_zero v)) ((numbered (x, a), v) ∷ later) later in
    elim (is_below zero_ratio w) as (λ b. is_below zero_ratio w ≡ b → first (ratio_max zero_ratio (ratio_min f w)) ≡ cond b ((numbered (x, a), ratio_min f w) ∷ shavings x (a + 1) fs (left_of w f)) []) [
      | true ↦ λ above.
          let some = ratio_min-above f w all.0 above in
          ap first (ratio_max-above (ratio_min f w) some)
          ∙ ap (λ b. cond (not b) ((numbered (x, a), ratio_min f w) ∷ later) later) (above_not_zero (ratio_min f w) some)
          ∙ ap (λ es. (numbered (x, a), ratio_min f w) ∷ es) (weighing-parts x (a + 1) fs (ratio_sub w f) all.1 ∙ shavings-left x (a + 1) fs w f above)
      | false ↦ λ none.
          ap first (ratio_max-none (ratio_min f w) (ratio_min-none f w none))
          ∙ ap (λ b. cond (not b) ((numbered (x, a), zero_ratio) ∷ later) later) is_zero-zero_ratio
          ∙ weighing-parts x (a + 1) fs (ratio_sub w f) all.1
          ∙ shavings-none x (a + 1) fs (ratio_sub w f) (none_left w f (not_below w f none all.0))
    ] refl

-- ---- the values that are tested are those that a walk tests
abbrev is_fit : Ratio → Bool
is_fit q = not (is_below zero_ratio q) || in_range q

fit_none : (q : Ratio) → is_below zero_ratio q ≡ false → is_fit q ≡ true
fit_none q h = ap (λ b. not b || in_range q) h

lefts-none : (fs : List Ratio) (w : Ratio) → AllAbove fs → is_below zero_ratio w ≡ false → list_all is_fit (lefts fs w) ≡ true
lefts-none [] w all none = refl
lefts-none (f ∷ fs) w all none = ap₂ (λ a b. a && b) (fit_none w none) (lefts-none fs (ratio_sub w f) all.1 (none_left w f (not_below w f none all.0)))

-- one piece more, where the pieces after it are tested as a walk tests them
lefts-tested-more : (f : Ratio) (fs : List Ratio) (w : Ratio) → AllAbove (f ∷ fs) → (is_below zero_ratio w ≡ false → InRange w) →
    ((is_below zero_ratio (ratio_sub w f) ≡ false → InRange (ratio_sub w f)) → list_all is_fit (lefts fs (ratio_sub w f)) ≡ left_in_range fs (ratio_sub w f)) →
    list_all is_fit (lefts (f ∷ fs) w) ≡ left_in_range (f ∷ fs) w
lefts-tested-more f fs w all known later =
    ap₂ (λ a b. a && b) here
    (elim (is_below zero_ratio w) as (λ b. is_below zero_ratio w ≡ b → list_all is_fit (lefts fs (ratio_sub w f)) ≡ left_in_range fs (left_of w f)) [
      | true ↦ some
      | false ↦ λ none. done (not_below w f none all.0) (left_of-none w f none)
    ] refl)
  where
    here : is_fit w ≡ in_range w
    here =
        elim (is_below zero_ratio w) as (λ b. is_below zero_ratio w ≡ b → (not b || in_range w) ≡ in_range w) [
          | true ↦ λ above. refl
          | false ↦ λ none. sym (known none)
        ] refl

    done : is_below f w ≡ false → left_of w f ≡ zero_ratio → list_all is_fit (lefts fs (ratio_sub w f)) ≡ left_in_range fs (left_of w f)
    done h e =
        lefts-none fs (ratio_sub w f) all.1 (none_left w f h)
        ∙ sym (ap (left_in_range fs) e ∙ left_in_range-none fs zero_ratio InRange-zero (is_below-itself zero_ratio))

    more : is_below zero_ratio w ≡ true → is_below f w ≡ true → list_all is_fit (lefts fs (ratio_sub w f)) ≡ left_in_range fs (left_of w f)
    more above h = later (λ none. absurd (true≢false (sym (above_difference w f ∙ h) ∙ none))) ∙ ap (left_in_range fs) (sym (left_of-more w f above h))

    some : is_below zero_ratio w ≡ true → list_all is_fit (lefts fs (ratio_sub w f)) ≡ left_in_range fs (left_of w f)
    some above =
        elim (is_below f w) as (λ b. is_below f w ≡ b → list_all is_fit (lefts fs (ratio_sub w f)) ≡ left_in_range fs (left_of w f)) [
          | true ↦ λ h. more above h
          | false ↦ λ h. done h (left_of-taken w f h)
        ] refl

lefts-tested : (fs : List Ratio) (w : Ratio) → AllAbove fs → (is_below zero_ratio w ≡ false → InRange w) → list_all is_fit (lefts fs w) ≡ left_in_range fs w
lefts-tested [] w all known = refl
lefts-tested (f ∷ fs) w all known = lefts-tested-more f fs w all known (lefts-tested fs (ratio_sub w f) all.1)

-- ---- a shave by its input's entries
abbrev pub shaved_entries : List Ratio → Entries → Entries
shaved_entries fs es = (gathered numbered (λ p. piece fs (weight_in es p.0) p.1) (pairs (rows_of es) (λ x. range_with_len 0 (length fs)))).entries

abbrev pub tested_entries : List Ratio → Entries → Bool
tested_entries fs es = list_all (λ p. is_fit (left_before fs (weight_in es p.0) p.1)) (pairs (rows_of es) (λ x. range_with_len 0 (length fs)))

own_weight : (x : Row) (w : Ratio) → weight_in ((x, w) ∷ []) x ≡ w
own_weight x w = weight_in-cons x (x, w) [] ∙ ap (λ b. cond b w zero_ratio) (same_row-itself x)

-- the cells of one row
one_map : {X : Type 0} (g : Row × ℕ → X) (x : Row) (n : ℕ) → map g (map (λ i. (x, i)) (range_with_len 0 n) ++ []) ≡ map (λ i. g (x, i)) (range_with_len 0 n)
one_map g x n = ap (map g) (append-nil (map (λ i. (x, i)) (range_with_len 0 n))) ∙ map-map g (λ i. (x, i)) (range_with_len 0 n)

module _ (x : Row) (fs : List Ratio) (w : Ratio) (all : AllAbove fs) where
  entries-some : shaved_entries fs ((x, w) ∷ []) ≡ shavings x 0 fs w
  entries-some =
      let own = own_weight x w in
      ap (λ es. (collected es).entries)
      (one_map (λ p. (numbered p, piece fs (weight_in ((x, w) ∷ []) p.0) p.1)) x (length fs)
      ∙ ap (λ v. map (λ i. (numbered (x, i), piece fs v i)) (range_with_len 0 (length fs))) own
      ∙ placed-are x (piece fs w) 0 (length fs)
      ∙ ap (placed x 0) (parts-are fs w))
      ∙ entries-collected (placed x 0 (parts fs w)) (placed-rising x 0 (parts fs w))
      ∙ weighing-parts x 0 fs w all

  -- the output rows of one row
  pub entries-shaved : (shaved fs (one_row x w)).entries ≡ shavings x 0 fs w
  entries-shaved =
      ap (shaved_entries fs) (entries-one_row x w)
      ∙ elim (is_zero w) as (λ b. is_zero w ≡ b → shaved_entries fs (cond b [] ((x, w) ∷ [])) ≡ shavings x 0 fs w) [
        | true ↦ λ e. entries-empty ∙ sym (shavings-none x 0 fs w (ap (is_below zero_ratio) (zero_if_is_zero w e) ∙ is_below-itself zero_ratio))
        | false ↦ λ e. entries-some
      ] refl

  tested-some : InRange w → tested_entries fs ((x, w) ∷ []) ≡ left_in_range fs w
  tested-some h =
      let own = own_weight x w in
      sym (list_all-map is_fit (λ p. left_before fs (weight_in ((x, w) ∷ []) p.0) p.1) (pairs (x ∷ []) (λ x. range_with_len 0 (length fs))))
      ∙ ap (list_all is_fit) (one_map (λ p. left_before fs (weight_in ((x, w) ∷ []) p.0) p.1) x (length fs) ∙ ap (λ v. map (left_before fs v) (range_with_len 0 (length fs))) own ∙ lefts-are fs w)
      ∙ lefts-tested fs w all (λ none. h)

  -- the values that are tested for one row
  pub tested-shaved : InRange w → shave_in_range fs (one_row x w) ≡ left_in_range fs w
  tested-shaved h =
      ap (tested_entries fs) (entries-one_row x w)
      ∙ elim (is_zero w) as (λ b. is_zero w ≡ b → tested_entries fs (cond b [] ((x, w) ∷ [])) ≡ left_in_range fs w) [
        | true ↦ λ e. sym (left_in_range-none fs w h (ap (is_below zero_ratio) (zero_if_is_zero w e) ∙ is_below-itself zero_ratio))
        | false ↦ λ e. tested-some h
      ] refl

  fits-shaved : InRange w → left_in_range fs w ≡ true → AllByRecursion (λ e. InRange e.1) (shavings x 0 fs w) → shave_fits fs (one_row x w) ≡ true
  fits-shaved h fits weights =
      and_from (shave_in_range fs (one_row x w)) (weights_in_range (shaved fs (one_row x w))) (tested-shaved h ∙ fits)
      (weights_in_range-all (shaved fs (one_row x w)) (λ z. weight_in-in_range (shaved fs (one_row x w)).entries z (subst (AllByRecursion (λ e. InRange e.1)) (sym entries-shaved) weights)))

  pub out-shaved : InRange w → left_in_range fs w ≡ false → shave_fits fs (one_row x w) ≡ false
  out-shaved h out = and_left (shave_in_range fs (one_row x w)) (weights_in_range (shaved fs (one_row x w))) (tested-shaved h ∙ out)

-- ---- a walk over all pieces of a weight
module _ (x : Row) (fs : List Ratio) (w : Ratio) (old new : Entries) (rest : Option Ratio) (all : AllAbove fs) (walk : AreShaved x 0 fs w old new rest) where
  pub added_by_walk : new ≡ old ++ (shaved fs (one_row x w)).entries
  added_by_walk = walk.added ∙ ap (λ es. old ++ es) (sym (entries-shaved x fs w all))

  pub fits_by_walk : InRange w → shave_fits fs (one_row x w) ≡ true
  fits_by_walk h = fits-shaved x fs w all h walk.fits walk.weights
