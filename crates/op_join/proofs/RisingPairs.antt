-- The pairs of rising rows rise, where the first rows are of one width.
use Rattle.std.specs.Prelude.{◌≡◌, ◌≢◌, ℕ, List, [], ◌∷◌, ◌++◌, length, refl}
use Rattle.std.specs.List.{AllByRecursion}
use Rattle.std.specs.List.Sorted.{IsStrictlySortedBy}
use Rattle.std.specs.Ordering.{ordering_then}
use Rattle.std.specs.declared.cmp.Ordering.TheVariants.{Less, Equal, Greater}
use Rattle.std.proofs.Common.{arith, ap, subst, sym, ◌∙◌}
use Rattle.std.proofs.lemmas.Cmp.{tied_itself}
use Rattle.std.proofs.lemmas.List.{map-append}
use Rattle.ratios.specs.Ratio.{Ratio, zero_ratio}
use Rattle.ratios.proofs.Linear.{◌⊑◌}
use Rattle.record_text.specs.Order.{atom_cmp, row_cmp}
use Rattle.record_text.specs.OrderLaws.{atom_total}
use Rattle.datasets.specs.Entries.{AreRising, Entries, NoneZero, Row, rows_of}
use Rattle.datasets.proofs.Members.{AllByRecursion-append}
use Rattle.weighted_set.specs.Changes.{entries_of}
use Rattle.weighted_set.specs.declared.weighted.Weighted.{Weighted}
use Rattle.weighted_set.proofs.Parts.{IsBelowRows}
use Rattle.op_parts.proofs.PartEntries.{product_other}
use Rattle.op_join.specs.Pairs.{all_pairs, row_pairs}
use Rattle.op_join.proofs.Quotients.{quotient_other}

-- ---- the order of rows that begin alike, and of rows that begin with others of their width

row_cmp-behind : (x y z : Row) → row_cmp (x ++ y) (x ++ z) ≡ row_cmp y z
row_cmp-behind [] y z = refl
row_cmp-behind (a ∷ x) y z = ap (λ o. ordering_then o (row_cmp (x ++ y) (x ++ z))) (tied_itself atom_total a) ∙ row_cmp-behind x y z

row_cmp-before : (x w y z : Row) → length x ≡ length w → row_cmp x w ≡ Less → row_cmp (x ++ y) (w ++ z) ≡ Less
row_cmp-before [] [] y z wide h = absurd cc
row_cmp-before [] (b ∷ w) y z wide h = absurd (omega arith)
row_cmp-before (a ∷ x) [] y z wide h = absurd (omega arith)
row_cmp-before (a ∷ x) (b ∷ w) y z wide h =
    (elim (atom_cmp a b) as (λ o. ordering_then o (row_cmp x w) ≡ Less → ordering_then o (row_cmp (x ++ y) (w ++ z)) ≡ Less) [
      | Less ↦ λ k. refl
      | Equal ↦ λ k. row_cmp-before x w y z (omega arith) k
      | Greater ↦ λ k. absurd cc
    ]) h

-- ---- the pairs of one row

-- the rows of a list have n atoms
abbrev pub AreWide : ℕ → List Weighted → Type 0
AreWide n xs = AllByRecursion (λ x. length x.row ≡ n) xs

module _ (d : Ratio) where
  below_row : (x : Weighted) (y : Row) (ys : List Weighted) → IsBelowRows y (rows_of (entries_of ys)) → IsBelowRows (x.row ++ y) (rows_of (row_pairs d x ys))
  below_row x y [] h = tt
  below_row x y (z ∷ ys) h = (row_cmp-behind x.row y z.row ∙ h.0, below_row x y ys h.1)

  rising_row : (x : Weighted) (ys : List Weighted) → AreRising (rows_of (entries_of ys)) → AreRising (rows_of (row_pairs d x ys))
  unfolding IsStrictlySortedBy
  rising_row x [] h = tt
  rising_row x (y ∷ ys) h = (below_row x y.row ys h.0, rising_row x ys h.1)

  -- ---- the pairs of a row above

  below_other : (x w : Weighted) (y : Row) (ys : List Weighted) → length x.row ≡ length w.row → row_cmp x.row w.row ≡ Less → IsBelowRows (x.row ++ y) (rows_of (row_pairs d w ys))
  below_other x w y [] wide h = tt
  below_other x w y (z ∷ ys) wide h = (row_cmp-before x.row w.row y z.row wide h, below_other x w y ys wide h)

  rows_of-append : (es fs : Entries) → rows_of (es ++ fs) ≡ rows_of es ++ rows_of fs
  rows_of-append es fs = map-append (λ e. e.0) es fs

  below_all : (n : ℕ) (x : Weighted) (y : Row) (ws ys : List Weighted) → length x.row ≡ n → AreWide n ws → IsBelowRows x.row (rows_of (entries_of ws)) → IsBelowRows (x.row ++ y) (rows_of (all_pairs d ws ys))
  below_all n x y [] ys wide wides h = tt
  below_all n x y (w ∷ ws) ys wide wides h =
      subst (IsBelowRows (x.row ++ y)) (sym (rows_of-append (row_pairs d w ys) (all_pairs d ws ys)))
      (AllByRecursion-append (λ z. row_cmp (x.row ++ y) z ≡ Less) (rows_of (row_pairs d w ys)) (rows_of (all_pairs d ws ys))
      (below_other x w y ys (wide ∙ sym wides.0) h.0) (below_all n x y ws ys wide wides.1 h.1))

  AreRising-append : (xs ys : List Row) → AreRising xs → AreRising ys → AllByRecursion (λ x. IsBelowRows x ys) xs → AreRising (xs ++ ys)
  unfolding IsStrictlySortedBy
  AreRising-append [] ys h k below = k
  AreRising-append (x ∷ xs) ys h k below = (AllByRecursion-append (λ z. row_cmp x z ≡ Less) xs ys h.0 below.0, AreRising-append xs ys h.1 k below.1)

  each_below : (n : ℕ) (x : Weighted) (zs ws ys : List Weighted) → length x.row ≡ n → AreWide n ws → IsBelowRows x.row (rows_of (entries_of ws)) → AllByRecursion (λ z. IsBelowRows z (rows_of (all_pairs d ws ys))) (rows_of (row_pairs d x zs))
  each_below n x [] ws ys wide wides h = tt
  each_below n x (z ∷ zs) ws ys wide wides h = (below_all n x z.row ws ys wide wides h, each_below n x zs ws ys wide wides h)

  pub AreRising-all_pairs : (n : ℕ) (xs ys : List Weighted) → AreWide n xs → AreRising (rows_of (entries_of xs)) → AreRising (rows_of (entries_of ys)) → AreRising (rows_of (all_pairs d xs ys))
  unfolding IsStrictlySortedBy
  AreRising-all_pairs n [] ys wides h k = tt
  AreRising-all_pairs n (x ∷ xs) ys wides h k =
      subst AreRising (sym (rows_of-append (row_pairs d x ys) (all_pairs d xs ys)))
      (AreRising-append (rows_of (row_pairs d x ys)) (rows_of (all_pairs d xs ys)) (rising_row x ys k) (AreRising-all_pairs n xs ys wides.1 h.1 k) (each_below n x ys xs ys wides.0 wides.1 h.0))

-- ---- no pair weighs 0

module _ (d : Ratio) (other : d ≢ zero_ratio) (nonneg : zero_ratio ⊑ d) where
  NoneZero-row : (x : Weighted) (ys : List Weighted) → x.weight ≢ zero_ratio → NoneZero (entries_of ys) → NoneZero (row_pairs d x ys)
  NoneZero-row x [] h k = tt
  NoneZero-row x (y ∷ ys) h k = (quotient_other _ d (product_other x.weight y.weight h k.0) other nonneg, NoneZero-row x ys h k.1)

  pub NoneZero-all_pairs : (xs ys : List Weighted) → NoneZero (entries_of xs) → NoneZero (entries_of ys) → NoneZero (all_pairs d xs ys)
  NoneZero-all_pairs [] ys h k = tt
  NoneZero-all_pairs (x ∷ xs) ys h k =
      AllByRecursion-append (λ e. e.1 ≢ zero_ratio) (row_pairs d x ys) (all_pairs d xs ys) (NoneZero-row x ys h.0 k) (NoneZero-all_pairs xs ys h.1 k)
