-- What a loop that sums the absolute weights of a list knows.
use Rattle.std.specs.Prelude.{◌≡◌, ◌+◌, ◌<◌, ◌≤◌, ℕ, suc, List, ◌∷◌, [], drop, length, map}
use Rattle.std.proofs.Common.{arith, ap, ap₂, get_or, sym, ◌∙◌}
use Rattle.std.proofs.Math.ListN.{drop_of_length-le}
use Rattle.std.proofs.Math.Seq.{drop-cons}
use Rattle.std.proofs.lemmas.List.{get_or-map, length-map}
use Rattle.std.proofs.lemmas.Simd.{map-map}
use Rattle.ratios.specs.Ratio.{Ratio, ratio_abs, zero_ratio}
use Rattle.datasets.specs.Entries.{Row}
use Rattle.weighted_set.specs.Parts.{IsListed, listed}
use Rattle.weighted_set.specs.Sizes.{checked_norm}
use Rattle.weighted_set.specs.declared.weighted.Weighted.{Weighted}
use Rattle.weighted_set.proofs.WeightSets.{sizes_of, sum_from}

-- the absolute weights of a list
abbrev pub sizes : List Weighted → List Ratio
sizes part = map (λ e. ratio_abs e.weight) part

-- the norm of a listed part is the sum of the list's absolute weights
pub norm-listed : (part : List Weighted) → IsListed part → checked_norm (listed part) ≡ sum_from zero_ratio (sizes part)
norm-listed part is_listed =
    ap (λ es. sum_from zero_ratio (sizes_of es)) is_listed
    ∙ ap (sum_from zero_ratio) (map-map (λ (e : Row × Ratio). ratio_abs e.1) (λ (e : Weighted). (e.row, e.weight)) part)

module _ (part : List Weighted) (i : ℕ) where
  pub sizes_from : (e : Weighted) → i < length part → e ≡ get_or part i e → drop i (sizes part) ≡ ratio_abs e.weight ∷ drop (i + 1) (sizes part)
  sizes_from e below is =
      let n = length-map part (λ (e : Weighted). ratio_abs e.weight) in
      let k : suc i ≡ i + 1 = omega arith in
      drop-cons (sizes part) i (ratio_abs e.weight) (omega arith)
      ∙ ap₂ (λ w j. w ∷ drop j (sizes part)) (get_or-map (λ (e : Weighted). ratio_abs e.weight) part i e (ratio_abs e.weight) below ∙ ap (λ (e : Weighted). ratio_abs e.weight) (sym is)) k

  pub sizes_end : length part ≤ i → drop i (sizes part) ≡ []
  sizes_end past = let n = length-map part (λ (e : Weighted). ratio_abs e.weight) in drop_of_length-le (sizes part) (omega arith)
