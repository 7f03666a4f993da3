-- What a loop that adds weights one by one knows of `ratio_sum` and `first_out_of_range`.
use Rattle.std.specs.Prelude.{ℕ, zero, suc, ◌+◌, ◌<◌, ◌≤◌, ◌≡◌, Bool, true, false, not, cond, List, [], ◌∷◌, length, take, drop, fold, ◌↔◌, Option, Some, None, refl}
use Rattle.std.specs.List.{position_from}
use Rattle.std.proofs.Common.{arith, sym, ap, subst, ◌∙◌, get_or}
use Rattle.std.proofs.lemmas.List.Sums.{fold_more}
use Rattle.std.proofs.lemmas.Bool.{and_from, and_parts, not-false}
use Rattle.std.proofs.lemmas.List.{drop_more}
use Rattle.std.proofs.Math.ListN.{drop_of_length-le}
use Rattle.ratios.specs.Ratio.{Ratio, ratio_add, zero_ratio}
use Rattle.ratios.specs.Range.{all_in_range, in_range, InRange}
use Rattle.ratios.specs.Sums.{ratio_sum, running_sums, running_sums_after, runs_in_range, first_out_of_range}
use Rattle.ratios.proofs.Range.{in_range-out}

abbrev is_out : Ratio → Bool
is_out q = not (in_range q)

-- before place i the sum is s, and no sum so far is out of range
pub record IsRunningAt (ws : List Ratio) (i : ℕ) (s : Ratio) : Type 0 where
  pub rest_sum : ratio_sum ws ≡ fold ratio_add s (drop i ws)
  pub rest_place : first_out_of_range ws ≡ position_from (λ q. not (in_range q)) i (running_sums_after s (drop i ws))

pub running_start : (ws : List Ratio) → IsRunningAt ws 0 zero_ratio
running_start ws = record { rest_sum = refl; rest_place = refl }

place_in : (i : ℕ) (q : Ratio) (qs : List Ratio) → InRange q → position_from is_out i (q ∷ qs) ≡ position_from is_out (i + 1) qs
place_in i q qs h = ap (λ b. cond (not b) (Some i) (position_from is_out (i + 1) qs)) h

place_out : (i : ℕ) (q : Ratio) (qs : List Ratio) → ¬ (InRange q) → position_from is_out i (q ∷ qs) ≡ Some i
place_out i q qs h = ap (λ b. cond (not b) (Some i) (position_from is_out (i + 1) qs)) (in_range-out q h)

-- one step: the next sum is in range
pub running_step : (ws : List Ratio) (i : ℕ) (s d : Ratio) → i < length ws → IsRunningAt ws i s → InRange (ratio_add s (get_or ws i d)) →
    IsRunningAt ws (i + 1) (ratio_add s (get_or ws i d))
running_step ws i s d lt h k =
    let w = get_or ws i d in
    record {
      rest_sum = h.rest_sum ∙ ap (fold ratio_add s) (drop_more ws i d lt);
      rest_place = h.rest_place ∙ ap (λ xs. position_from is_out i (running_sums_after s xs)) (drop_more ws i d lt) ∙ place_in i (ratio_add s w) (running_sums_after (ratio_add s w) (drop (i + 1) ws)) k;
    }

-- the next sum is out of range
pub running_out : (ws : List Ratio) (i : ℕ) (s d : Ratio) → i < length ws → IsRunningAt ws i s → ¬ (InRange (ratio_add s (get_or ws i d))) →
    first_out_of_range ws ≡ Some i
running_out ws i s d lt h k =
    let w = get_or ws i d in
    h.rest_place ∙ ap (λ xs. position_from is_out i (running_sums_after s xs)) (drop_more ws i d lt) ∙ place_out i (ratio_add s w) (running_sums_after (ratio_add s w) (drop (i + 1) ws)) k

-- the end: the sum is the whole sum, and no sum on the way was out of range
pub running_sum_is : (ws : List Ratio) (i : ℕ) (s : Ratio) → length ws ≤ i → IsRunningAt ws i s → s ≡ ratio_sum ws
running_sum_is ws i s le h = sym (h.rest_sum ∙ ap (fold ratio_add s) (drop_of_length-le ws le))

pub running_end : (ws : List Ratio) (i : ℕ) (s : Ratio) → length ws ≤ i → IsRunningAt ws i s → first_out_of_range ws ≡ None
running_end ws i s le h = h.rest_place ∙ ap (λ xs. position_from is_out i (running_sums_after s xs)) (drop_of_length-le ws le)

-- ---- the same by the front of the list
pub ratio_sum-take : (ws : List Ratio) (i : ℕ) (d : Ratio) → i < length ws → ratio_sum (take (i + 1) ws) ≡ ratio_add (ratio_sum (take i ws)) (get_or ws i d)
ratio_sum-take ws i d h = fold_more ratio_add zero_ratio ws i d h

-- ---- no place is out of range just where all sums on the way are in range

-- where no place is found, the first place is not one
pub first_passes : (b : Bool) (i : ℕ) (o : Option ℕ) → cond b (Some i) o ≡ None → (b ≡ false) × (o ≡ None)
first_passes true i o e = cc
first_passes false i o e = (refl, e)

all_if_none : (i : ℕ) (qs : List Ratio) → position_from is_out i qs ≡ None → all_in_range qs ≡ true
all_if_none i [] e = refl
all_if_none i (q ∷ qs) e =
    let p = first_passes (not (in_range q)) i (position_from is_out (i + 1) qs) e in
    and_from (in_range q) (all_in_range qs) (not-false (in_range q) p.0) (all_if_none (i + 1) qs p.1)

none_if_all : (i : ℕ) (qs : List Ratio) → all_in_range qs ≡ true → position_from is_out i qs ≡ None
none_if_all i [] h = refl
none_if_all i (q ∷ qs) h =
    let p = and_parts (in_range q) (all_in_range qs) h in
    place_in i q qs p.0 ∙ none_if_all (i + 1) qs p.1

pub runs_in_range_is_no_place : (ws : List Ratio) → (runs_in_range ws ≡ true) ↔ (first_out_of_range ws ≡ None)
runs_in_range_is_no_place ws = (none_if_all 0 (running_sums ws), all_if_none 0 (running_sums ws))

-- ---- each running sum is the sum of a front
length-running_sums_after : (q : Ratio) (ws : List Ratio) → length (running_sums_after q ws) ≡ length ws
length-running_sums_after q [] = refl
length-running_sums_after q (w ∷ ws) = ap suc (length-running_sums_after (ratio_add q w) ws)

running_sum_after_at : (q : Ratio) (ws : List Ratio) (k : ℕ) (d : Ratio) → k < length ws →
    get_or (running_sums_after q ws) k d ≡ fold ratio_add q (take (k + 1) ws)
running_sum_after_at q [] k d h = absurd (omega arith)
running_sum_after_at q (w ∷ ws) zero d h = refl
running_sum_after_at q (w ∷ ws) (suc k) d h =
    let e : suc (k + 1) ≡ suc k + 1 = omega arith in
    running_sum_after_at (ratio_add q w) ws k d (omega arith) ∙ ap (λ n. fold ratio_add q (take n (w ∷ ws))) e

pub running_sums_are_of_fronts : (ws : List Ratio) → (length (running_sums ws) ≡ length ws) ×
    ((k : ℕ) (d : Ratio) → k < length ws → get_or (running_sums ws) k d ≡ ratio_sum (take (k + 1) ws))
running_sums_are_of_fronts ws = (length-running_sums_after zero_ratio ws, running_sum_after_at zero_ratio ws)

-- ---- the sums on the way are in range just where that of each front is
all_at : (qs : List Ratio) → all_in_range qs ≡ true → (k : ℕ) (d : Ratio) → k < length qs → InRange (get_or qs k d)
all_at [] h k d lt = absurd (omega arith)
all_at (q ∷ qs) h zero d lt = (and_parts (in_range q) (all_in_range qs) h).0
all_at (q ∷ qs) h (suc k) d lt = all_at qs (and_parts (in_range q) (all_in_range qs) h).1 k d (omega arith)

all_from : (qs : List Ratio) (d : Ratio) → ((k : ℕ) → k < length qs → InRange (get_or qs k d)) → all_in_range qs ≡ true
all_from [] d h = refl
all_from (q ∷ qs) d h = and_from (in_range q) (all_in_range qs) (h 0 (omega arith)) (all_from qs d (λ k lt. h (suc k) (omega arith)))

pub runs_in_range_by_fronts : (ws : List Ratio) → (runs_in_range ws ≡ true) ↔ ((k : ℕ) → k < length ws → InRange (ratio_sum (take (k + 1) ws)))
runs_in_range_by_fronts ws =
    let fronts = running_sums_are_of_fronts ws in
    let d = zero_ratio in (
      λ h k lt. subst InRange (fronts.1 k d lt) (all_at (running_sums ws) h k d (subst (λ n. k < n) (sym fronts.0) lt)),
      λ h. all_from (running_sums ws) d (λ k lt. let below = subst (λ n. k < n) fronts.0 lt in subst InRange (sym (fronts.1 k d below)) (h k below)),
    )
