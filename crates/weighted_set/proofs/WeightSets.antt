-- What a set of weights keeps as they are set, and the sums over them.
use Rattle.std.specs.Prelude.{◌≡◌, Bool, true, false, cond, ◌&&◌, filter, fold, not, List, [], ◌∷◌, map, Option, Some, None, refl}
use Rattle.std.specs.BTreeMap.{insert_entry}
use Rattle.std.specs.List.{list_all}
use Rattle.std.specs.List.Sorted.{IsStrictlySortedBy}
use Rattle.std.specs.Map.{remove_entry}
use Rattle.std.specs.Ordering.{match_ordering}
use Rattle.std.specs.declared.cmp.Ordering.TheVariants.{Less, Equal, Greater}
use Rattle.std.proofs.Common.{sym, ap, subst, ◌∙◌}
use Rattle.ratios.specs.Range.{in_range, InRange, checked}
use Rattle.ratios.specs.Ratio.{Ratio, ratio_abs, ratio_add}
use Rattle.ratios.specs.Sums.{running_sums_after}
use Rattle.ratios.proofs.Range.{checked_none, checked_some, in_range-out}
use Rattle.record_text.specs.Order.{row_cmp}
use Rattle.datasets.specs.Dataset.{Dataset, set_at, dataset_of}
use Rattle.datasets.specs.Entries.{Row, Entries, NoneZero, AreRising, rows_of, is_zero, same_row}
use Rattle.datasets.proofs.Counts.{entries-dataset_of}
use Rattle.datasets.proofs.Rows.{is_zero-other, other_if_not_is_zero, zero_if_is_zero}
use Rattle.weighted_set.specs.Held.{AllInRange}
use Rattle.weighted_set.specs.Sizes.{AreWeights}
use Rattle.weighted_set.specs.Tables.{FindsAt}
use Rattle.weighted_set.proofs.Tables.{dataset_of-weighs}
use Rattle.weighted_set.proofs.Sets.{dataset_of-none, AllInRange-empty, AllInRange-set_at}

all_kept : (es : Entries) → NoneZero es → filter (λ e. not (is_zero e.1)) es ≡ es
all_kept [] h = refl
all_kept (e ∷ es) h =
    ap (λ b. cond (not b) (e ∷ filter (λ e. not (is_zero e.1)) es) (filter (λ e. not (is_zero e.1)) es)) (is_zero-other e.1 h.0)
    ∙ ap (λ fs. e ∷ fs) (all_kept es h.1)

-- the entries of a set are those that it keeps
pub entries_kept : (es : Entries) → AreWeights es → (dataset_of es).entries ≡ es
entries_kept es h = entries-dataset_of es h.rising ∙ all_kept es h.none_zero

-- what is a set's table is the entries of the dataset that it is seen as
pub table_seen : (es fs : Entries) (A : Dataset) → AreWeights es → dataset_of es ≡ A → fs ≡ es → fs ≡ A.entries
table_seen es fs A h view same = same ∙ sym (entries_kept es h) ∙ ap (λ B. B.entries) view

none_are_weights : AreWeights []
unfolding IsStrictlySortedBy
none_are_weights = record { rising = tt; none_zero = tt; in_range = subst AllInRange (sym dataset_of-none) AllInRange-empty }

pub new_are_weights : (es : Entries) → es ≡ [] → AreWeights es
new_are_weights es e = subst AreWeights (sym e) none_are_weights

-- ---- one weight is set
NoneZero-removed : (test : Row → Bool) (es : Entries) → NoneZero es → NoneZero (remove_entry test es)
NoneZero-removed test [] h = tt
NoneZero-removed test (e ∷ es) h = elim (test e.0) as (λ b. NoneZero (cond b es (e ∷ remove_entry test es))) [ true ↦ h.1 | false ↦ (h.0, NoneZero-removed test es h.1) ]

NoneZero-inserted : (x : Row) (w : Ratio) (es : Entries) → is_zero w ≡ false → NoneZero es → NoneZero (insert_entry row_cmp es x w)
NoneZero-inserted x w [] n h = (other_if_not_is_zero w n, tt)
NoneZero-inserted x w (e ∷ es) n h =
    elim (row_cmp x e.0) as (λ o. NoneZero (match_ordering o ((x, w) ∷ e ∷ es) ((e.0, w) ∷ es) (e ∷ insert_entry row_cmp es x w))) [
      | Less ↦ (other_if_not_is_zero w n, h)
      | Equal ↦ (other_if_not_is_zero w n, h.1)
      | Greater ↦ (h.0, NoneZero-inserted x w es n h.1)
    ]

module _ (x : Row) (w : Ratio) (old new : Entries) (range : InRange w) (rising : AreRising (rows_of new)) (before : AreWeights old) where
  range_after : dataset_of new ≡ set_at x w (dataset_of old) → AllInRange (dataset_of new)
  range_after e = subst AllInRange (sym e) (AllInRange-set_at x w (dataset_of old) range before.in_range)

  pub removed_dataset : is_zero w ≡ true → FindsAt x None old new → dataset_of new ≡ set_at x w (dataset_of old)
  removed_dataset z h = dataset_of-weighs x None old new h ∙ ap (λ v. set_at x v (dataset_of old)) (sym (zero_if_is_zero w z))

  pub removed_are_weights : is_zero w ≡ true → FindsAt x None old new → new ≡ remove_entry (same_row x) old → AreWeights new
  removed_are_weights z h e = record { rising = rising; none_zero = subst NoneZero (sym e) (NoneZero-removed (same_row x) old before.none_zero); in_range = range_after (removed_dataset z h) }

  pub inserted_are_weights : is_zero w ≡ false → FindsAt x (Some w) old new → new ≡ insert_entry row_cmp old x w → AreWeights new
  inserted_are_weights n h e = record { rising = rising; none_zero = subst NoneZero (sym e) (NoneZero-inserted x w old n before.none_zero); in_range = range_after (dataset_of-weighs x (Some w) old new h) }

-- ---- sums that stop where one on the way is out of range
-- the sum of s and a list, or nothing where a sum on the way is out of range
abbrev pub sum_from : Ratio → List Ratio → Option Ratio
sum_from s ws = cond (list_all in_range (running_sums_after s ws)) (Some (fold ratio_add s ws)) None

pub and_nested : (b c : Bool) (o : Option Ratio) → cond (b && c) o None ≡ cond b (cond c o None) None
and_nested true c o = refl
and_nested false c o = refl

sum_from-cons : (s w : Ratio) (ws : List Ratio) → sum_from s (w ∷ ws) ≡ cond (in_range (ratio_add s w)) (sum_from (ratio_add s w) ws) None
sum_from-cons s w ws = and_nested (in_range (ratio_add s w)) (list_all in_range (running_sums_after (ratio_add s w) ws)) (Some (fold ratio_add (ratio_add s w) ws))

pub sum_goes_on : (s w r : Ratio) (ws : List Ratio) → checked (ratio_add s w) ≡ Some r → sum_from s (w ∷ ws) ≡ sum_from r ws
sum_goes_on s w r ws e =
    let p = checked_some (ratio_add s w) r e in
    sum_from-cons s w ws ∙ ap (λ b. cond b (sum_from (ratio_add s w) ws) None) p.0 ∙ ap (λ q. sum_from q ws) (sym p.1)

pub sum_stops : (s w : Ratio) (ws : List Ratio) → checked (ratio_add s w) ≡ None → sum_from s (w ∷ ws) ≡ None
sum_stops s w ws e =
    sum_from-cons s w ws ∙ ap (λ b. cond b (sum_from (ratio_add s w) ws) None) (in_range-out (ratio_add s w) (checked_none (ratio_add s w) e))

-- the absolute weights of entries
abbrev pub sizes_of : Entries → List Ratio
sizes_of es = map (λ e. ratio_abs e.1) es
