-- What a loop that adds weights one by one knows.
use Rattle.std.specs.Prelude.{ℕ, suc, ◌+◌, ◌<◌, ◌≤◌, ◌≡◌, Bool, true, false, not, cond, List, [], ◌∷◌, length, take, drop, Option, Some, MatchOption, refl}
use Rattle.std.specs.List.{position_from}
use Rattle.std.specs.Map.{lookup}
use Rattle.std.proofs.Common.{sym, ap, subst, ◌∙◌, arith, get_or}
use Rattle.std.proofs.lemmas.List.{length-map, get_or-map, take_all}
use Rattle.std.proofs.lemmas.List.Sums.{fold_more}
use Rattle.std.proofs.Math.Seq.{drop-cons}
use Rattle.std.proofs.Math.ListN.{drop_of_length-le}
use Rattle.ratios.specs.Range.{in_range, InRange}
use Rattle.ratios.specs.Ratio.{Ratio, ratio_add}
use Rattle.ratios.proofs.Range.{in_range-out}
use Rattle.datasets.specs.Dataset.{Dataset, at, add_at, with_added, running_weights, first_weight_out_of_range}
use Rattle.datasets.specs.Entries.{Row, same_row}
use Rattle.datasets.proofs.Rows.{same_row-equal, same_row-turned}
use Rattle.datasets.proofs.Weights.{at-add_at}
use Rattle.weighted_set.specs.declared.held.Held.{Held}
use Rattle.weighted_set.specs.declared.weighted.Weighted.{Weighted}
use Rattle.weighted_set.specs.Adding.{StaysInRange}
use Rattle.weighted_set.specs.Changes.{entries_of}
use Rattle.weighted_set.specs.Held.{HeldRows, PutsAt, HoldsStep}

pub length-entries_of : (added : List Weighted) → length (entries_of added) ≡ length added
length-entries_of added = length-map added (λ (w : Weighted). (w.row, w.weight))

-- A with the weights before place i added
abbrev pub so_far : Dataset → List Weighted → ℕ → Dataset
so_far A added i = with_added A (take i (entries_of added))

-- before place i the table holds what is added so far, and no weight so far is out of range
pub record IsRunningAt (A : Dataset) (added : List Weighted) (i : ℕ) (table : HeldRows) : Type 0 where
  pub rest : first_weight_out_of_range A (entries_of added) ≡ position_from (λ q. not (in_range q)) i (running_weights (with_added A (take i (entries_of added))) (drop i (entries_of added)))
  pub step : HoldsStep table A (with_added A (take i (entries_of added)))

pub running_start : (A : Dataset) (added : List Weighted) (table : HeldRows) → table ≡ [] → IsRunningAt A added 0 table
running_start A added table e = subst (IsRunningAt A added 0) (sym e) (record { rest = refl; step = λ x. refl })

-- ---- one place more
pub entry_is : (added : List Weighted) (i : ℕ) (e : Weighted) → i < length added → e ≡ get_or added i e → get_or (entries_of added) i (e.row, e.weight) ≡ (e.row, e.weight)
entry_is added i e h is = get_or-map (λ (w : Weighted). (w.row, w.weight)) added i e (e.row, e.weight) h ∙ ap (λ w. (w.row, w.weight)) (sym is)

entries_from : (added : List Weighted) (i : ℕ) (e : Weighted) → i < length added → e ≡ get_or added i e → drop i (entries_of added) ≡ (e.row, e.weight) ∷ drop (i + 1) (entries_of added)
entries_from added i e h is =
    let n = length-entries_of added in
    let k : suc i ≡ i + 1 = omega arith in
    drop-cons (entries_of added) i (e.row, e.weight) (omega arith)
    ∙ ap (λ x. x ∷ drop (suc i) (entries_of added)) (entry_is added i e h is)
    ∙ ap (λ j. (e.row, e.weight) ∷ drop j (entries_of added)) k

added_more : (A : Dataset) (added : List Weighted) (i : ℕ) (e : Weighted) → i < length added → e ≡ get_or added i e →
    with_added A (take (i + 1) (entries_of added)) ≡ add_at e.row e.weight (with_added A (take i (entries_of added)))
added_more A added i e h is =
    let n = length-entries_of added in
    fold_more (λ (B : Dataset) (e : Row × Ratio). add_at e.0 e.1 B) A (entries_of added) i (e.row, e.weight) (omega arith)
    ∙ ap (λ (x : Row × Ratio). add_at x.0 x.1 (with_added A (take i (entries_of added)))) (entry_is added i e h is)

-- what a table says of a row, whatever the row's weight is called
say_again : (o : Option Held) (a b c : Ratio) → b ≡ c → MatchOption o (b ≡ a) (λ h. (h.committed ≡ a) × (h.pending ≡ b)) → MatchOption o (c ≡ a) (λ h. (h.committed ≡ a) × (h.pending ≡ c))
say_again o a b c e h = subst (λ t. MatchOption o (t ≡ a) (λ h. (h.committed ≡ a) × (h.pending ≡ t))) e h

holds_more : (T new : HeldRows) (A B : Dataset) (x : Row) (w : Ratio) (h : Held) → PutsAt x h T new → h.committed ≡ at A x → h.pending ≡ ratio_add (at B x) w → HoldsStep T A B → HoldsStep new A (add_at x w B)
holds_more T new A B x w h p old now step q =
    let P : Option Held → Type 0 = λ o. MatchOption o (at (add_at x w B) q ≡ at A q) (λ h. (h.committed ≡ at A q) × (h.pending ≡ at (add_at x w B) q)) in
    subst P (sym (p q))
    (elim (same_row x q) as (λ b. same_row x q ≡ b → P (cond b (Some h) (lookup (same_row q) T))) [
      | true ↦ λ e.
          let same = same_row-equal x q e in
          let here : at (add_at x w B) q ≡ ratio_add (at B q) w = at-add_at x w B q ∙ ap (λ b. cond b (ratio_add (at B q) w) (at B q)) (sym (same_row-turned x q) ∙ e) in
          (old ∙ ap (at A) same, now ∙ ap (λ z. ratio_add (at B z) w) same ∙ sym here)
      | false ↦ λ e.
          let there : at (add_at x w B) q ≡ at B q = at-add_at x w B q ∙ ap (λ b. cond b (ratio_add (at B q) w) (at B q)) (sym (same_row-turned x q) ∙ e) in
          say_again (lookup (same_row q) T) (at A q) (at B q) (at (add_at x w B) q) (sym there) (step q)
    ] refl)

module _ (A : Dataset) (added : List Weighted) (i : ℕ) (T : HeldRows) (e : Weighted) (below : i < length added) (is : e ≡ get_or added i e) (running : IsRunningAt A added i T) where
  rest_is : first_weight_out_of_range A (entries_of added)
      ≡ position_from (λ q. not (in_range q)) i (ratio_add (at (so_far A added i) e.row) e.weight ∷ running_weights (add_at e.row e.weight (so_far A added i)) (drop (i + 1) (entries_of added)))
  rest_is = running.rest ∙ ap (λ es. position_from (λ q. not (in_range q)) i (running_weights (so_far A added i) es)) (entries_from added i e below is)

  pub running_step : (new : HeldRows) (h : Held) → PutsAt e.row h T new → h.committed ≡ at A e.row → h.pending ≡ ratio_add (at (so_far A added i) e.row) e.weight → InRange (ratio_add (at (so_far A added i) e.row) e.weight) →
      IsRunningAt A added (i + 1) new
  running_step new h p old now k =
      let more = added_more A added i e below is in
      record {
        rest = rest_is ∙ ap (λ b. cond (not b) (Some i) (position_from (λ q. not (in_range q)) (i + 1) (running_weights (add_at e.row e.weight (so_far A added i)) (drop (i + 1) (entries_of added))))) k
            ∙ ap (λ B. position_from (λ q. not (in_range q)) (i + 1) (running_weights B (drop (i + 1) (entries_of added)))) (sym more);
        step = subst (HoldsStep new A) (sym more) (holds_more T new A (so_far A added i) e.row e.weight h p old now running.step);
      }

  pub running_out : ¬ (InRange (ratio_add (at (so_far A added i) e.row) e.weight)) → first_weight_out_of_range A (entries_of added) ≡ Some i
  running_out n =
      rest_is ∙ ap (λ b. cond (not b) (Some i) (position_from (λ q. not (in_range q)) (i + 1) (running_weights (add_at e.row e.weight (so_far A added i)) (drop (i + 1) (entries_of added))))) (in_range-out _ n)

-- ---- the first place that passes a test
pub place_here : (test : Row × Ratio → Bool) (added : List Weighted) (i : ℕ) (e : Weighted) → i < length added → e ≡ get_or added i e → test (e.row, e.weight) ≡ true →
    position_from test i (drop i (entries_of added)) ≡ Some i
place_here test added i e h is k =
    ap (position_from test i) (entries_from added i e h is) ∙ ap (λ b. cond b (Some i) (position_from test (i + 1) (drop (i + 1) (entries_of added)))) k

pub place_past : (test : Row × Ratio → Bool) (added : List Weighted) (i : ℕ) (e : Weighted) → i < length added → e ≡ get_or added i e → test (e.row, e.weight) ≡ false →
    position_from test i (drop i (entries_of added)) ≡ position_from test (i + 1) (drop (i + 1) (entries_of added))
place_past test added i e h is k =
    ap (position_from test i) (entries_from added i e h is) ∙ ap (λ b. cond b (Some i) (position_from test (i + 1) (drop (i + 1) (entries_of added)))) k

-- ---- the end
module _ (A : Dataset) (added : List Weighted) (i : ℕ) (T : HeldRows) (past : length added ≤ i) (running : IsRunningAt A added i T) where
  past_entries : length (entries_of added) ≤ i
  past_entries = let n = length-entries_of added in omega arith

  pub running_stays : StaysInRange A added
  running_stays = running.rest ∙ ap (λ es. position_from (λ q. not (in_range q)) i (running_weights (with_added A (take i (entries_of added))) es)) (drop_of_length-le (entries_of added) past_entries)

  pub running_holds : HoldsStep T A (with_added A (entries_of added))
  running_holds = subst (λ es. HoldsStep T A (with_added A es)) (take_all i (entries_of added) past_entries) running.step
