-- What a loop that sums the weights of a list knows.
use Rattle.std.specs.Prelude.{ℕ, suc, ◌+◌, ◌<◌, ◌≤◌, ◌≡◌, Bool, true, false, ◌&&◌, cond, List, [], ◌∷◌, length, fold, drop, Some, None, refl}
use Rattle.std.proofs.Common.{sym, ap, ap₂, subst, ◌∙◌, arith, get_or}
use Rattle.std.proofs.lemmas.List.{length-map, get_or-map}
use Rattle.std.proofs.Math.Seq.{drop-cons}
use Rattle.std.proofs.Math.ListN.{drop_of_length-le}
use Rattle.ratios.specs.Range.{in_range, InRange, all_in_range}
use Rattle.ratios.specs.Ratio.{Ratio, ratio_add, zero_ratio}
use Rattle.ratios.specs.Sums.{ratio_sum, running_sums_after, runs_in_range}
use Rattle.ratios.proofs.Range.{in_range-out}
use Rattle.datasets.specs.Entries.{Row}
use Rattle.weighted_set.specs.declared.weighted.Weighted.{Weighted}
use Rattle.weighted_set.specs.Changes.{entries_of}
use Rattle.weighted_set.proofs.Running.{length-entries_of}
use Rattle.op_linear.specs.Summed.{checked_sum, weights_of}

-- where a sum is answered, it is the sum and no running sum is out of range
pub answered_sum : (list : List Weighted) (s : Ratio) → Some s ≡ checked_sum (weights_of list) → (runs_in_range (weights_of list) ≡ true) × (s ≡ ratio_sum (weights_of list))
answered_sum list s e = some (runs_in_range (weights_of list)) e
  where
    some : (b : Bool) → Some s ≡ cond b (Some (ratio_sum (weights_of list))) None → (b ≡ true) × (s ≡ ratio_sum (weights_of list))
    some true e = (refl, cc)
    some false e = cc

-- s is the sum of the weights before place i, and no sum so far is out of range
pub record IsSumAt (ws : List Ratio) (i : ℕ) (s : Ratio) : Type 0 where
  pub sum : ratio_sum ws ≡ fold ratio_add s (drop i ws)
  pub runs : runs_in_range ws ≡ all_in_range (running_sums_after s (drop i ws))

pub sum_start : (ws : List Ratio) (s : Ratio) → s ≡ zero_ratio → IsSumAt ws 0 s
sum_start ws s e = subst (IsSumAt ws 0) (sym e) (record { sum = refl; runs = refl })

length-listed : (list : List Weighted) → length (weights_of list) ≡ length list
length-listed list = length-map (entries_of list) (λ e. e.1) ∙ length-entries_of list

module _ (list : List Weighted) (i : ℕ) (s : Ratio) (running : IsSumAt (weights_of list) i s) where
  module _ (e : Weighted) (below : i < length list) (is : e ≡ get_or list i e) where
    weights_from : drop i (weights_of list) ≡ e.weight ∷ drop (i + 1) (weights_of list)
    weights_from =
        let n = length-entries_of list in
        let m = length-listed list in
        let k : suc i ≡ i + 1 = omega arith in
        drop-cons (weights_of list) i e.weight (omega arith)
        ∙ ap₂ (λ w j. w ∷ drop j (weights_of list))
        (get_or-map (λ e. e.1) (entries_of list) i (e.row, e.weight) e.weight (omega arith) ∙ ap (λ (p : Row × Ratio). p.1) (get_or-map (λ (w : Weighted). (w.row, w.weight)) list i e (e.row, e.weight) below) ∙ ap (λ (w : Weighted). w.weight) (sym is)) k

    runs_from : runs_in_range (weights_of list) ≡ (in_range (ratio_add s e.weight) && all_in_range (running_sums_after (ratio_add s e.weight) (drop (i + 1) (weights_of list))))
    runs_from = running.runs ∙ ap (λ ws. all_in_range (running_sums_after s ws)) weights_from

    -- the next sum is in range
    pub sum_more : InRange (ratio_add s e.weight) → IsSumAt (weights_of list) (i + 1) (ratio_add s e.weight)
    sum_more h = record {
      sum = running.sum ∙ ap (fold ratio_add s) weights_from;
      runs = runs_from ∙ ap (λ b. b && all_in_range (running_sums_after (ratio_add s e.weight) (drop (i + 1) (weights_of list)))) h;
    }

    -- the next sum is out of range
    pub sum_out : ¬ (InRange (ratio_add s e.weight)) → runs_in_range (weights_of list) ≡ false
    sum_out n = runs_from ∙ ap (λ b. b && all_in_range (running_sums_after (ratio_add s e.weight) (drop (i + 1) (weights_of list)))) (in_range-out (ratio_add s e.weight) n)

  module _ (past : length list ≤ i) where
    none_left : drop i (weights_of list) ≡ []
    none_left = let n = length-listed list in drop_of_length-le (weights_of list) (omega arith)

    pub sum_whole : s ≡ ratio_sum (weights_of list)
    sum_whole = sym (running.sum ∙ ap (fold ratio_add s) none_left)

    pub runs_whole : runs_in_range (weights_of list) ≡ true
    runs_whole = running.runs ∙ ap (λ ws. all_in_range (running_sums_after s ws)) none_left
