-- Sets and parts of one row.
use Rattle.std.specs.Prelude.{ℕ, ◌≡◌, List, [], ◌∷◌, length, Some}
use Rattle.std.proofs.Common.{sym, ap, ap₂, subst, ◌∙◌, cond, arith}
use Rattle.ratios.specs.Range.{InRange}
use Rattle.ratios.specs.Ratio.{Ratio}
use Rattle.datasets.specs.Dataset.{rows, empty, set_at}
use Rattle.datasets.specs.Entries.{Row, row_count}
use Rattle.datasets.specs.Kept.{is_zero-zero_ratio}
use Rattle.datasets.proofs.Counts.{length-set_at}
use Rattle.datasets.proofs.Weights.{at-empty}
use Rattle.weighted_set.specs.declared.held.Held.{Held}
use Rattle.weighted_set.specs.Held.{AllInRange, HeldRows, IsSet, IsSettledRow, PutsAt, committed_of, dataset_by, one_held, pending_of}
use Rattle.weighted_set.proofs.Sets.{AllInRange-empty, AllInRange-set_at, dataset_of-none, length-empty}
use Rattle.weighted_set.proofs.Tables.{dataset_by-finds}
use Rattle.weighted_set.proofs.TouchedRows.{all_but_more, others_stay}

pub length-one_row : (x : Row) (w : Ratio) → length (rows (set_at x w empty)) ≡ row_count w
length-one_row x w =
    let counted = length-set_at x w empty in
    let none_before = ap row_count (at-empty x) ∙ ap (λ b. cond b 0 1) is_zero-zero_ratio in
    omega (arith, length-empty)

-- a row is put into a table without rows
module _ (x : Row) (h : Held) (es : HeldRows) (puts : PutsAt x h [] es) where
  one_put : (f : Held → Ratio) → dataset_by f es ≡ set_at x (f h) empty
  one_put f = dataset_by-finds f x (Some h) [] es puts ∙ ap (set_at x (f h)) dataset_of-none

  pub one_put_seen : record { committed = committed_of es; pending = pending_of es } ≡ one_held x h
  one_put_seen = ap₂ (λ A B. record { committed = A; pending = B }) (one_put (λ h. h.committed)) (one_put (λ h. h.pending))

  one_in_range : (f : Held → Ratio) → InRange (f h) → AllInRange (dataset_by f es)
  one_in_range f k = subst AllInRange (sym (one_put f)) (AllInRange-set_at x (f h) empty k AllInRange-empty)

  pub one_is_set : (ts : List Row) (len : ℕ) → ts ≡ x ∷ [] → len ≡ row_count h.committed → InRange h.committed → InRange h.pending → IsSet es ts len
  one_is_set ts len noted counted committed pending =
      let touched = all_but_more IsSettledRow [] x [] es (others_stay x (Some h) [] es puts) (λ y n. tt) in
      subst (λ ts. IsSet es ts len) (sym noted) (record {
        settled = touched;
        counted = counted ∙ sym (ap (λ A. length (rows A)) (one_put (λ h. h.committed)) ∙ length-one_row x h.committed);
        committed_in_range = one_in_range (λ h. h.committed) committed;
        pending_in_range = one_in_range (λ h. h.pending) pending;
      })
