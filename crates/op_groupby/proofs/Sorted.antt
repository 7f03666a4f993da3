-- A sort by falling weight gives the entries of a part in falling order.
use Rattle.std.specs.Prelude.{ℕ, suc, ◌+◌, ◌<◌, ◌≡◌, Bool, false, List, [], ◌∷◌, length, map, refl}
use Rattle.std.specs.List.Sorted.{IsPermutation, IsSortedBy}
use Rattle.std.specs.Ordering.{is_le, is_lt, ordering_reverse}
use Rattle.std.specs.declared.cmp.Ordering.{Ordering}
use Rattle.std.specs.declared.cmp.Ordering.TheVariants.{Less, Equal, Greater}
use Rattle.std.proofs.Common.{arith, sym, ap, subst, ◌∙◌, Bor, get_or, true≢false}
use Rattle.std.proofs.lemmas.List.Sorted.{IsPermutation-map}
use Rattle.ratios.specs.Ratio.{Ratio, ◌≼◌, ratio_cmp}
use Rattle.ratios.proofs.Order.{ratio_cmp_total}
use Rattle.weighted_set.specs.Changes.{entries_of}
use Rattle.weighted_set.specs.declared.weighted.Weighted.{Weighted}
use Rattle.level_walks.specs.Walks.{IsByWeight, NeverRise}
use Rattle.op_groupby.specs.Group.{ordered}

-- a is heavier than b
abbrev pub heavier : Bor Weighted → Bor Weighted → Bool
heavier a b = is_lt (ratio_cmp b.now.weight a.now.weight)

at_most_if_not : (a b : Ratio) → is_lt (ratio_cmp a b) ≡ false → b ≼ a
at_most_if_not a b h = split (ratio_cmp a b) refl
  where
    split : (o : Ordering) → ratio_cmp a b ≡ o → b ≼ a
    split Less p = absurd (true≢false (sym (ap is_lt p) ∙ h))
    split Equal p = ap is_le (ratio_cmp_total.antisymm b a ∙ ap ordering_reverse p)
    split Greater p = ap is_le (ratio_cmp_total.antisymm b a ∙ ap ordering_reverse p)

falling : (xs : List (Bor Weighted)) → ((k : ℕ) (d : Bor Weighted) → k + 1 < length xs → heavier (get_or xs (k + 1) d) (get_or xs k d) ≡ false) → NeverRise (ordered xs)
falling [] h = tt
falling (x ∷ []) h = tt
falling (x ∷ y ∷ ys) h = (
  at_most_if_not x.now.weight y.now.weight (h 0 x (omega arith)),
  falling (y ∷ ys) (λ k d p. let e : suc k + 1 ≡ suc (k + 1) = omega arith in subst (λ n. heavier (get_or (x ∷ y ∷ ys) n d) (get_or (x ∷ y ∷ ys) (suc k) d) ≡ false) e (h (suc k) d (omega arith))),
)

pub falling_order : (part : List Weighted) (xs ys : List (Bor Weighted)) → map (λ e. e.now) xs ≡ part → IsPermutation xs ys → IsSortedBy heavier ys → IsByWeight (entries_of part) (ordered ys)
falling_order part xs ys e p sorted = record {
  same = subst (λ ws. IsPermutation (entries_of ws) (ordered ys)) e
      (IsPermutation-map (λ (w : Weighted). (w.row, w.weight)) (map (λ (e : Bor Weighted). e.now) xs) (map (λ (e : Bor Weighted). e.now) ys) (IsPermutation-map (λ (e : Bor Weighted). e.now) xs ys p));
  falling = falling ys (λ k d h. sorted k d (omega arith) h);
}
