-- What a set keeps as its rows change.
use Rattle.std.specs.Prelude.{ℕ, ◌≡◌, true, false, cond, IfSome, List, [], ◌∷◌, ◌++◌, length, map, filter, not, Some, refl}
use Rattle.std.proofs.Common.{sym, ap, subst, ◌∙◌, arith}
use Rattle.std.proofs.lemmas.List.{length-map}
use Rattle.ratios.specs.Range.{in_range, InRange}
use Rattle.ratios.specs.Ratio.{Ratio, zero_ratio}
use Rattle.datasets.specs.Dataset.{Dataset, at, rows, empty, set_at, dataset_of}
use Rattle.datasets.specs.Entries.{Row, Entries, rows_of, AreRising, is_zero, same_row, weight_in}
use Rattle.datasets.proofs.Counts.{set_at-same, entries-dataset_of}
use Rattle.datasets.proofs.Equality.{same_weights}
use Rattle.datasets.proofs.Weights.{at-empty, at-set_at}
use Rattle.weighted_set.specs.declared.held.Held.{Held}
use Rattle.weighted_set.specs.declared.held.View.{View}
use Rattle.weighted_set.specs.declared.held.View.TheVariants.{Committed, Pending}
use Rattle.weighted_set.specs.Held.{AllInRange, HeldDatasets, HeldRows, IsSet, IsSettledRow, PutsAt, SettlesAt, committed_of, dataset_by, pending_of, seen_by, settled_row, viewed, viewed_weight}
use Rattle.weighted_set.proofs.Tables.{committed_of-settles, dataset_by-finds, pending_of-settles, settled_row-is_settled}
use Rattle.weighted_set.proofs.TouchedRows.{all_but_less, all_but_more, all_but_noted, found_itself, others_stay}

-- ---- the range
pub at_other : (x y : Row) (w : Ratio) (A : Dataset) → same_row y x ≡ false → at (set_at x w A) y ≡ at A y
at_other x y w A h = at-set_at x w A y ∙ ap (λ b. cond b w (at A y)) h

at_same : (x y : Row) (w : Ratio) (A : Dataset) → same_row y x ≡ true → at (set_at x w A) y ≡ w
at_same x y w A h = at-set_at x w A y ∙ ap (λ b. cond b w (at A y)) h

pub InRange-zero : InRange zero_ratio
unfolding in_range zero_ratio
InRange-zero = refl

pub AllInRange-empty : AllInRange empty
AllInRange-empty x = subst InRange (sym (at-empty x)) InRange-zero

pub AllInRange-set_at : (x : Row) (w : Ratio) (A : Dataset) → InRange w → AllInRange A → AllInRange (set_at x w A)
AllInRange-set_at x w A h k y =
    elim (same_row y x) as (λ b. same_row y x ≡ b → InRange (at (set_at x w A) y)) [
      | true ↦ λ p. subst InRange (sym (at_same x y w A p)) h
      | false ↦ λ p. subst InRange (sym (at_other x y w A p)) (k y)
    ] refl

-- ---- a set
pub dataset_of-none : dataset_of [] ≡ empty
unfolding dataset_of
dataset_of-none = refl

pub length-empty : length (rows empty) ≡ 0
unfolding empty
length-empty = refl

none_is_set : IsSet [] [] 0
none_is_set = record {
  settled = λ x n. tt;
  counted = sym (ap (λ A. length (rows A)) dataset_of-none ∙ length-empty);
  committed_in_range = subst AllInRange (sym dataset_of-none) AllInRange-empty;
  pending_in_range = subst AllInRange (sym dataset_of-none) AllInRange-empty;
}

pub new_is_set : (es : HeldRows) (ts : List Row) → es ≡ [] → ts ≡ [] → IsSet es ts 0
new_is_set es ts e f = subst (λ es. IsSet es ts 0) (sym e) (subst (λ ts. IsSet [] ts 0) (sym f) none_is_set)

-- what is put is the committed weight, so that the committed weights stay
pub committed_stays : (es new : HeldRows) (x : Row) (h : Held) → PutsAt x h es new → h.committed ≡ at (committed_of es) x → committed_of new ≡ committed_of es
committed_stays es new x h puts e =
    dataset_by-finds (λ h. h.committed) x (Some h) es new puts ∙ ap (λ w. set_at x w (committed_of es)) e ∙ set_at-same x (committed_of es)

module _ (es new : HeldRows) (ts : List Row) (x : Row) (len : ℕ) where
  -- a row is noted as touched
  pub noted_is_set : IsSet es ts len → IsSet es (ts ++ x ∷ []) len
  noted_is_set h = record {
    settled = all_but_noted IsSettledRow ts x es h.settled;
    counted = h.counted;
    committed_in_range = h.committed_in_range;
    pending_in_range = h.pending_in_range;
  }

  -- its pending weight is set
  pub put_is_set : (h : Held) → IsSet es ts len → PutsAt x h es new → h.committed ≡ at (committed_of es) x → InRange h.pending → IsSet new (ts ++ x ∷ []) len
  put_is_set h set puts e k =
      let same = committed_stays es new x h puts e in
      record {
        settled = all_but_more IsSettledRow ts x es new (others_stay x (Some h) es new puts) set.settled;
        counted = set.counted ∙ ap (λ A. length (rows A)) (sym same);
        committed_in_range = subst AllInRange (sym same) set.committed_in_range;
        pending_in_range = subst AllInRange (sym (dataset_by-finds (λ h. h.pending) x (Some h) es new puts)) (AllInRange-set_at x h.pending (pending_of es) k set.pending_in_range);
      }

  -- its two weights are made one
  pub settled_is_set : (w : Ratio) (n : ℕ) → IsSet es (ts ++ x ∷ []) len → SettlesAt x w es new → InRange w → n ≡ length (rows (committed_of new)) → IsSet new ts n
  settled_is_set w n set settles k count =
      let itself = found_itself x (settled_row w) es new settles in
      record {
        settled = all_but_less IsSettledRow ts x es new (others_stay x (settled_row w) es new settles) set.settled (subst (λ o. IfSome o IsSettledRow) (sym itself) (settled_row-is_settled w));
        counted = count;
        committed_in_range = subst AllInRange (sym (committed_of-settles x w es new settles)) (AllInRange-set_at x w (committed_of es) k set.committed_in_range);
        pending_in_range = subst AllInRange (sym (pending_of-settles x w es new settles)) (AllInRange-set_at x w (pending_of es) k set.pending_in_range);
      }

-- ---- the entries of a set, in order
-- the rows of a weight other than 0
abbrev pub entries_by : (Held → Ratio) → HeldRows → Entries
entries_by f es = filter (λ e. not (is_zero e.1)) (map (λ e. (e.0, f e.1)) es)

rows_of-map : (f : Held → Ratio) (es : HeldRows) → rows_of (map (λ e. (e.0, f e.1)) es) ≡ map (λ e. e.0) es
rows_of-map f [] = refl
rows_of-map f (e ∷ es) = ap (λ xs. e.0 ∷ xs) (rows_of-map f es)

pub entries-dataset_by : (f : Held → Ratio) (es : HeldRows) → AreRising (map (λ e. e.0) es) → (dataset_by f es).entries ≡ entries_by f es
entries-dataset_by f es h = entries-dataset_of (map (λ e. (e.0, f e.1)) es) (subst AreRising (sym (rows_of-map f es)) h)

-- the first row, where its weight isn't 0
pub entries_by-takes : (f : Held → Ratio) (x : Row) (h : Held) (es : HeldRows) → is_zero (f h) ≡ false → entries_by f ((x, h) ∷ es) ≡ (x, f h) ∷ entries_by f es
entries_by-takes f x h es n = ap (λ b. cond (not b) ((x, f h) ∷ entries_by f es) (entries_by f es)) n

-- ---- the views of a set
dataset_by-either : (view : View) (es : HeldRows) → dataset_by (viewed_weight view) es ≡ viewed view (record { committed = committed_of es; pending = pending_of es })
dataset_by-either Committed es = refl
dataset_by-either Pending es = refl

-- either view of a set that is kept is in range
pub seen_in_range : (view : View) (es : HeldRows) (ts : List Row) (len : ℕ) → IsSet es ts len → AllInRange (seen_by view es)
seen_in_range Committed es ts len h = h.committed_in_range
seen_in_range Pending es ts len h = h.pending_in_range

-- what a set's rows give in a view is what callers see there
pub dataset_by-view : (view : View) (es : HeldRows) (seen : HeldDatasets) → record { committed = committed_of es; pending = pending_of es } ≡ seen → dataset_by (viewed_weight view) es ≡ viewed view seen
dataset_by-view view es seen is = dataset_by-either view es ∙ ap (viewed view) is

-- where nothing is pending, both datasets are what either view has
pub committed_is_viewed : (view : View) (part : HeldDatasets) → part.pending ≡ part.committed → part.committed ≡ viewed view part
committed_is_viewed Committed part same = refl
committed_is_viewed Pending part same = sym same

pub pending_is_viewed : (view : View) (part : HeldDatasets) → part.pending ≡ part.committed → part.pending ≡ viewed view part
pending_is_viewed Committed part same = same
pending_is_viewed Pending part same = refl

-- where both datasets are A, either view has A
pub settled_is_viewed : (view : View) (part : HeldDatasets) (A : Dataset) → part.committed ≡ A → part.pending ≡ A → viewed view part ≡ A
settled_is_viewed Committed part A e f = e
settled_is_viewed Pending part A e f = f

-- ---- a set without rows
none_if_no_length : (es : Entries) → length es ≡ 0 → es ≡ []
none_if_no_length [] e = refl
none_if_no_length (x ∷ es) e = absurd (omega arith)

pub empty_if_no_rows : (A : Dataset) → length (rows A) ≡ 0 → A ≡ empty
empty_if_no_rows A e =
    let none = none_if_no_length A.entries (sym (length-map A.entries (λ e. e.0)) ∙ e) in
    same_weights A empty (λ x. ap (λ es. weight_in es x) none ∙ sym (at-empty x))
