-- The output rows of a listed part, as they are listed.
use Rattle.std.specs.Prelude.{◌≡◌, true, false, cond, List, [], ◌∷◌, map}
use Rattle.std.proofs.Common.{sym, ap, ◌∙◌}
use Rattle.ratios.specs.Ratio.{Ratio}
use Rattle.ratios.specs.Sums.{ratio_sum}
use Rattle.datasets.specs.Entries.{Row, is_zero}
use Rattle.weighted_set.specs.Parts.{IsListed, listed}
use Rattle.weighted_set.specs.declared.weighted.Weighted.{Weighted}
use Rattle.op_parts.proofs.OneRows.{entries-one_row}
use Rattle.op_parts.specs.OneRow.{one_row}
use Rattle.op_linear.specs.Summed.{summed, weights, weights_of}

module _ (left : List Weighted) (is_listed : IsListed left) where
  weights-listed : weights (listed left) ≡ weights_of left
  weights-listed = ap (λ es. map (λ e. e.1) es) is_listed

  outputs-listed : (k : Row) (s : Ratio) → s ≡ ratio_sum (weights_of left) → (summed k (listed left)).entries ≡ cond (is_zero s) [] ((k, s) ∷ [])
  outputs-listed k s e = ap (λ ws. (one_row k (ratio_sum ws)).entries) weights-listed ∙ ap (λ w. (one_row k w).entries) (sym e) ∙ entries-one_row k s

  pub outputs-some : (k : Row) (s : Ratio) → s ≡ ratio_sum (weights_of left) → is_zero s ≡ false → (summed k (listed left)).entries ≡ (k, s) ∷ []
  outputs-some k s e other = outputs-listed k s e ∙ ap (λ b. cond b [] ((k, s) ∷ [])) other

  pub outputs-none : (k : Row) (s : Ratio) → s ≡ ratio_sum (weights_of left) → is_zero s ≡ true → (summed k (listed left)).entries ≡ []
  outputs-none k s e none = outputs-listed k s e ∙ ap (λ b. cond b [] ((k, s) ∷ [])) none
