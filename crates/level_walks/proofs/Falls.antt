-- The levels of entries by falling weight.
use Rattle.std.specs.Prelude.{◌≡◌, false, cond, filter, fold, List, [], ◌∷◌, ◌++◌, refl}
use Rattle.std.specs.List.{AllByRecursion}
use Rattle.std.specs.List.Sorted.{IsPermutation}
use Rattle.std.specs.Ordering.{eq_by_cmp, is_eq, is_le, match_ordering, ordering_reverse}
use Rattle.std.specs.declared.cmp.Ordering.{Ordering}
use Rattle.std.specs.declared.cmp.Ordering.TheVariants.{Less, Equal, Greater}
use Rattle.std.proofs.Common.{sym, ap, ◌∙◌, true≢false}
use Rattle.ratios.specs.Ratio.{Ratio, ◌≼◌, is_below, ratio_cmp}
use Rattle.ratios.proofs.Order.{ratio_cmp_total, same_from_tie}
use Rattle.operators.specs.Operators.{with_level, with_levels}
use Rattle.datasets.specs.Entries.{Entries, Row}
use Rattle.level_walks.specs.Walks.{NeverRise, ties_with, weights_of}
use Rattle.level_walks.proofs.Folds.{fold-out, fold-permuted}

turned : (t u : Ratio) (o : Ordering) → ratio_cmp t u ≡ o → ratio_cmp u t ≡ ordering_reverse o
turned t u o p = ratio_cmp_total.antisymm u t ∙ ap ordering_reverse p

-- ---- levels put in any order

put_less : (t u : Ratio) (us : List Ratio) → ratio_cmp t u ≡ Less → with_level t (u ∷ us) ≡ u ∷ with_level t us
put_less t u us p = ap (λ o. match_ordering o (u ∷ with_level t us) (u ∷ us) (t ∷ u ∷ us)) p

put_equal : (t u : Ratio) (us : List Ratio) → ratio_cmp t u ≡ Equal → with_level t (u ∷ us) ≡ u ∷ us
put_equal t u us p = ap (λ o. match_ordering o (u ∷ with_level t us) (u ∷ us) (t ∷ u ∷ us)) p

put_greater : (t u : Ratio) (us : List Ratio) → ratio_cmp t u ≡ Greater → with_level t (u ∷ us) ≡ t ∷ u ∷ us
put_greater t u us p = ap (λ o. match_ordering o (u ∷ with_level t us) (u ∷ us) (t ∷ u ∷ us)) p

-- two put in front, in either order
fronts_alike : (us : List Ratio) (t v : Ratio) (above_t : with_level t us ≡ t ∷ us) (above_v : with_level v us ≡ v ∷ us) (o : Ordering) → ratio_cmp v t ≡ o → with_level v (t ∷ us) ≡ with_level t (v ∷ us)
fronts_alike us t v at' av Less p = put_less v t us p ∙ ap (λ xs. t ∷ xs) av ∙ sym (put_greater t v us (turned v t Less p))
fronts_alike us t v at' av Equal p = put_equal v t us p ∙ ap (λ w. w ∷ us) (sym (same_from_tie v t p)) ∙ sym (put_equal t v us (turned v t Equal p))
fronts_alike us t v at' av Greater p = put_greater v t us p ∙ ap (λ xs. v ∷ xs) (sym at') ∙ sym (put_less t v us (turned v t Greater p))

pub levels_alike : (us : List Ratio) (t v : Ratio) → with_level v (with_level t us) ≡ with_level t (with_level v us)
levels_alike [] t v = fronts_alike [] t v refl refl (ratio_cmp v t) refl
levels_alike (u ∷ us) t v = both (levels_alike us t v) (ratio_cmp t u) (ratio_cmp v u) refl refl
  where
    -- t at most u, and v above it
    apart : (a b : Ratio) → ratio_cmp a b ≡ Less → with_level b (u ∷ us) ≡ b ∷ u ∷ us → with_level b (with_level a (u ∷ us)) ≡ b ∷ with_level a (u ∷ us) → with_level b (with_level a (u ∷ us)) ≡ with_level a (with_level b (u ∷ us))
    apart a b less front behind = behind ∙ sym (put_less a b (u ∷ us) less) ∙ ap (with_level a) (sym front)

    both : with_level v (with_level t us) ≡ with_level t (with_level v us) → (o p : Ordering) → ratio_cmp t u ≡ o → ratio_cmp v u ≡ p → with_level v (with_level t (u ∷ us)) ≡ with_level t (with_level v (u ∷ us))
    both rest Less Less e f =
        ap (with_level v) (put_less t u us e) ∙ put_less v u (with_level t us) f ∙ ap (λ xs. u ∷ xs) rest
        ∙ sym (ap (with_level t) (put_less v u us f) ∙ put_less t u (with_level v us) e)
    both rest Less Equal e f = ap (with_level v) (put_less t u us e) ∙ put_equal v u (with_level t us) f ∙ sym (ap (with_level t) (put_equal v u us f) ∙ put_less t u us e)
    both rest Less Greater e f =
        apart t v (ratio_cmp_total.trans t u v e (turned v u Greater f)) (put_greater v u us f)
        (ap (with_level v) (put_less t u us e) ∙ put_greater v u (with_level t us) f ∙ ap (λ xs. v ∷ xs) (sym (put_less t u us e)))
    both rest Equal Less e f = ap (with_level v) (put_equal t u us e) ∙ put_less v u us f ∙ sym (ap (with_level t) (put_less v u us f) ∙ put_equal t u (with_level v us) e)
    both rest Equal Equal e f = ap (with_level v) (put_equal t u us e) ∙ put_equal v u us f ∙ sym (ap (with_level t) (put_equal v u us f) ∙ put_equal t u us e)
    both rest Equal Greater e f =
        apart t v (ap (λ w. ratio_cmp w v) (same_from_tie t u e) ∙ turned v u Greater f) (put_greater v u us f)
        (ap (with_level v) (put_equal t u us e) ∙ put_greater v u us f ∙ ap (λ xs. v ∷ xs) (sym (put_equal t u us e)))
    both rest Greater Less e f =
        sym (apart v t (ratio_cmp_total.trans v u t f (turned t u Greater e)) (put_greater t u us e)
        (ap (with_level t) (put_less v u us f) ∙ put_greater t u (with_level v us) e ∙ ap (λ xs. t ∷ xs) (sym (put_less v u us f))))
    both rest Greater Equal e f =
        sym (apart v t (ap (λ w. ratio_cmp w t) (same_from_tie v u f) ∙ turned t u Greater e) (put_greater t u us e)
        (ap (with_level t) (put_equal v u us f) ∙ put_greater t u us e ∙ ap (λ xs. t ∷ xs) (sym (put_equal v u us f))))
    both rest Greater Greater e f =
        ap (with_level v) (put_greater t u us e) ∙ fronts_alike (u ∷ us) t v (put_greater t u us e) (put_greater v u us f) (ratio_cmp v t) refl ∙ sym (ap (with_level t) (put_greater v u us f))

with_levels-fold : (ts : List Ratio) → with_levels ts ≡ fold (λ us t. with_level t us) [] ts
with_levels-fold [] = refl
with_levels-fold (t ∷ ts) = ap (with_level t) (with_levels-fold ts) ∙ sym (fold-out (λ us t. with_level t us) (λ us x y. levels_alike us x y) [] t ts)

pub with_levels-permuted : (ts vs : List Ratio) → IsPermutation ts vs → with_levels vs ≡ with_levels ts
with_levels-permuted ts vs p = with_levels-fold vs ∙ fold-permuted (λ us t. with_level t us) (λ us x y. levels_alike us x y) [] ts vs p ∙ sym (with_levels-fold ts)

-- ---- the levels of falling weights

-- a weight at most the one above it: the two cases
module _ (w v : Ratio) (us : List Ratio) (h : v ≼ w) where
  pub put_front : (o : Ordering) → ratio_cmp w v ≡ o → with_level w (v ∷ us) ≡ cond (eq_by_cmp ratio_cmp w v) (v ∷ us) (w ∷ v ∷ us)
  put_front Less p = absurd (true≢false (sym h ∙ ap is_le (turned w v Less p)))
  put_front Equal p = put_equal w v us p ∙ sym (ap (λ o. cond (is_eq o) (v ∷ us) (w ∷ v ∷ us)) p)
  put_front Greater p = put_greater w v us p ∙ sym (ap (λ o. cond (is_eq o) (v ∷ us) (w ∷ v ∷ us)) p)

  pub front_is : (o : Ordering) → ratio_cmp w v ≡ o → (vs : List Ratio) × (with_level w (v ∷ us) ≡ w ∷ vs)
  front_is Less p = absurd (true≢false (sym h ∙ ap is_le (turned w v Less p)))
  front_is Equal p = (us, put_equal w v us p ∙ ap (λ x. x ∷ us) (sym (same_from_tie w v p)))
  front_is Greater p = (v ∷ us, put_greater w v us p)

-- the highest level is the first weight
pub first_level : (e : Row × Ratio) (es : Entries) → NeverRise (e ∷ es) → (us : List Ratio) × (with_levels (weights_of (e ∷ es)) ≡ e.1 ∷ us)
first_level e [] h = ([], refl)
first_level e (f ∷ es) h =
    let first = first_level f es h.1 in
    let front = front_is e.1 f.1 first.0 h.0 (ratio_cmp e.1 f.1) refl in
    (front.0, ap (with_level e.1) first.1 ∙ front.1)

-- a tie adds none
pub levels_from : (e : Row × Ratio) (es : Entries) → NeverRise (e ∷ es) → with_levels (weights_of (e ∷ es)) ≡ cond (ties_with e.1 es) (with_levels (weights_of es)) (e.1 ∷ with_levels (weights_of es))
levels_from e [] h = refl
levels_from e (f ∷ es) h =
    let first = first_level f es h.1 in
    ap (with_level e.1) first.1
    ∙ put_front e.1 f.1 first.0 h.0 (ratio_cmp e.1 f.1) refl
    ∙ sym (ap (λ us. cond (eq_by_cmp ratio_cmp e.1 f.1) us (e.1 ∷ us)) first.1)

-- ---- the levels below a weight

-- a weight that is not below t adds no level below it
below_kept : (t w : Ratio) (us : List Ratio) → is_below w t ≡ false → filter (λ u. is_below u t) (with_level w us) ≡ filter (λ u. is_below u t) us
below_kept t w [] h = ap (λ b. cond b (w ∷ []) []) h
below_kept t w (u ∷ us) h = split (below_kept t w us h) (ratio_cmp w u) refl
  where
    split : filter (λ u. is_below u t) (with_level w us) ≡ filter (λ u. is_below u t) us → (o : Ordering) → ratio_cmp w u ≡ o → filter (λ u. is_below u t) (with_level w (u ∷ us)) ≡ filter (λ u. is_below u t) (u ∷ us)
    split rest Less p = ap (filter (λ u. is_below u t)) (put_less w u us p) ∙ ap (λ xs. cond (is_below u t) (u ∷ xs) xs) rest
    split rest Equal p = ap (filter (λ u. is_below u t)) (put_equal w u us p)
    split rest Greater p = ap (filter (λ u. is_below u t)) (put_greater w u us p) ∙ ap (λ b. cond b (w ∷ filter (λ u. is_below u t) (u ∷ us)) (filter (λ u. is_below u t) (u ∷ us))) h

-- none of these weights is below t
abbrev pub AreAtLeast : Ratio → Entries → Type 0
AreAtLeast t es = AllByRecursion (λ e. is_below e.1 t ≡ false) es

pub below_front : (t : Ratio) (front es : Entries) → AreAtLeast t front → filter (λ u. is_below u t) (with_levels (weights_of (front ++ es))) ≡ filter (λ u. is_below u t) (with_levels (weights_of es))
below_front t [] es h = refl
below_front t (e ∷ front) es h = below_kept t e.1 (with_levels (weights_of (front ++ es))) h.0 ∙ below_front t front es h.1
