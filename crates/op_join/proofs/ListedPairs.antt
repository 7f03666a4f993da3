-- The pairs of listed parts are the entries of the parts' output.
use Rattle.std.specs.Prelude.{◌≡◌, ◌≢◌, ◌&&◌, ℕ, List, [], ◌∷◌, ◌++◌, map, refl}
use Rattle.std.specs.List.{AllByRecursion, list_all}
use Rattle.std.proofs.Common.{ap, ap₂, subst, sym, ◌∙◌}
use Rattle.std.proofs.lemmas.List.{map-append}
use Rattle.ratios.specs.Range.{in_range}
use Rattle.ratios.specs.Ratio.{Ratio, ratio_add, ratio_div, ratio_mul, zero_ratio}
use Rattle.datasets.specs.Dataset.{Dataset, at, norm, rows}
use Rattle.datasets.specs.Entries.{AreRising, Entries, NoneZero, Row, rows_of}
use Rattle.operators.specs.InRange.{weights_in_range}
use Rattle.operators.specs.Operators.{both_rows}
use Rattle.operators.specs.Weights.{collected, pairs}
use Rattle.weighted_set.specs.Changes.{entries_of}
use Rattle.weighted_set.specs.Parts.{IsListed, listed}
use Rattle.weighted_set.specs.declared.weighted.Weighted.{Weighted}
use Rattle.weighted_set.proofs.Parts.{entries_have_weights}
use Rattle.op_parts.proofs.Collected.{entries-collected_whole}
use Rattle.op_join.specs.Join.{joined_part, pair_weight}
use Rattle.op_join.specs.Pairs.{all_pairs, entries_in_range, row_pairs}
use Rattle.op_join.proofs.Quotients.{norms_nonneg}
use Rattle.op_join.proofs.RisingPairs.{AreRising-all_pairs, AreWide, NoneZero-all_pairs}

-- each weight is what w says of its row
abbrev HaveWeights : (Row → Ratio) → Entries → Type 0
HaveWeights w es = AllByRecursion (λ e. e.1 ≡ w e.0) es

-- ---- pairs of rows with their weights

module _ (w v : Row → Ratio) (d : Ratio) where
  abbrev weighed : Row × Row → Row × Ratio
  weighed p = (both_rows p, ratio_div (ratio_mul (w p.0) (v p.1)) d)

  pairs_row : (x : Weighted) (ys : List Weighted) → x.weight ≡ w x.row → HaveWeights v (entries_of ys) → map weighed (map (λ y. (x.row, y)) (rows_of (entries_of ys))) ≡ row_pairs d x ys
  pairs_row x [] h k = refl
  pairs_row x (y ∷ ys) h k = ap₂ (λ q es. (x.row ++ y.row, q) ∷ es) (ap₂ (λ a b. ratio_div (ratio_mul a b) d) (sym h) (sym k.0)) (pairs_row x ys h k.1)

  pairs_all : (xs ys : List Weighted) → HaveWeights w (entries_of xs) → HaveWeights v (entries_of ys) → map weighed (pairs (rows_of (entries_of xs)) (λ x. rows_of (entries_of ys))) ≡ all_pairs d xs ys
  pairs_all [] ys h k = refl
  pairs_all (x ∷ xs) ys h k =
      map-append weighed (map (λ y. (x.row, y)) (rows_of (entries_of ys))) (pairs (rows_of (entries_of xs)) (λ x. rows_of (entries_of ys)))
      ∙ ap₂ (λ es fs. es ++ fs) (pairs_row x ys h.0 k) (pairs_all xs ys h.1 k)

-- ---- the weights of a dataset are in range where those of its entries are

entries-tested : (w : Row → Ratio) (es : Entries) → HaveWeights w es → list_all in_range (map w (rows_of es)) ≡ entries_in_range es
entries-tested w [] h = refl
entries-tested w (e ∷ es) h = ap₂ (λ q b. in_range q && b) (sym h.0) (entries-tested w es h.1)

-- ---- the output of two listed parts

module _ (left right : List Weighted) (is_left : IsListed left) (is_right : IsListed right) where
  abbrev P : Dataset
  P = listed left

  abbrev Q : Dataset
  Q = listed right

  abbrev d : Ratio
  d = ratio_add (norm P) (norm Q)

  pairs_are : map (λ p. (both_rows p, pair_weight P Q p)) (pairs (rows P) (λ x. rows Q)) ≡ all_pairs d left right
  pairs_are =
      ap₂ (λ es fs. map (weighed (at P) (at Q) d) (pairs (rows_of es) (λ x. rows_of fs))) is_left is_right
      ∙ pairs_all (at P) (at Q) d left right (subst (HaveWeights (at P)) is_left (entries_have_weights P.entries P.rising)) (subst (HaveWeights (at Q)) is_right (entries_have_weights Q.entries Q.rising))

  module _ (n : ℕ) (wide : AreWide n left) (other : d ≢ zero_ratio) where
    pub entries-joined_part : (joined_part P Q).entries ≡ all_pairs d left right
    entries-joined_part =
        ap (λ es. (collected es).entries) pairs_are
        ∙ entries-collected_whole (all_pairs d left right)
        (AreRising-all_pairs d n left right wide (subst (λ es. AreRising (rows_of es)) is_left P.rising) (subst (λ es. AreRising (rows_of es)) is_right Q.rising))
        (NoneZero-all_pairs d other (norms_nonneg P Q) left right (subst NoneZero is_left P.none_zero) (subst NoneZero is_right Q.none_zero))

    pub weights-joined_part : weights_in_range (joined_part P Q) ≡ entries_in_range (all_pairs d left right)
    weights-joined_part =
        let C = joined_part P Q in
        entries-tested (at C) C.entries (entries_have_weights C.entries C.rising) ∙ ap entries_in_range entries-joined_part
