-- Rows that hold two weights, the committed and the pending one.
use Rattle.std.specs.Prelude.{◌≡◌, ◌≢◌, ℕ, Bool, if◌then◌else◌, List, map, length, MatchOption, filter, not, Option, Some, None, refl}
use Rattle.std.specs.Coded.{Coded, code_by, coded×}
use Rattle.std.specs.Map.{lookup}
use Rattle.std.specs.Ordering.{eq_by_cmp}
use Rattle.ratios.specs.Range.{InRange}
use Rattle.ratios.specs.Ratio.{Ratio, ratio_cmp, zero_ratio}
use Rattle.datasets.specs.Code.{dataset_code}
use Rattle.datasets.specs.Dataset.{Dataset, at, empty, rows, set_at, dataset_of}
use Rattle.datasets.specs.Entries.{Entries, Row, is_zero, same_row}
use Rattle.weighted_set.specs.Changes.{IsChangeList}
use Rattle.weighted_set.specs.Tables.{AllBut, FindsAt}
use Rattle.weighted_set.specs.declared.held.Held.{Held}
use Rattle.weighted_set.specs.declared.held.View.{View}
use Rattle.weighted_set.specs.declared.held.View.TheVariants.{Committed, Pending}
use Rattle.weighted_set.specs.declared.weighted.Change.{Change}

-- rows, each with its two weights
abbrev pub HeldRows : Type 0
HeldRows = List (Row × Held)

-- the dataset of one of the two weights
abbrev pub dataset_by : (Held → Ratio) → HeldRows → Dataset
dataset_by weight es = dataset_of (map (λ e. (e.0, weight e.1)) es)

-- the committed weights
abbrev pub committed_of : HeldRows → Dataset
committed_of es = dataset_by (λ h. h.committed) es

-- the pending weights
abbrev pub pending_of : HeldRows → Dataset
pending_of es = dataset_by (λ h. h.pending) es

-- the weight of a view
abbrev pub viewed_weight : View → Held → Ratio
viewed_weight Committed h = h.committed
viewed_weight Pending h = h.pending

-- the weights of a view
abbrev pub seen_by : View → HeldRows → Dataset
seen_by view es = dataset_by (viewed_weight view) es

-- the rows that weigh something in a view, with their weights there
abbrev pub viewed_entries : View → HeldRows → Entries
viewed_entries view es = (seen_by view es).entries

-- what callers see of a set: the committed dataset, and the one that is pending
pub record HeldDatasets : Type 0 where
  pub committed : Dataset
  pub pending : Dataset

-- it is stored as the two datasets
abbrev pub held_datasets_code : Coded HeldDatasets
held_datasets_code =
    code_by (Dataset × Dataset) (coded× dataset_code dataset_code)
    (λ h. (h.committed, h.pending)) (λ p. record { committed = p.0; pending = p.1 }) (λ _. refl)

-- the two datasets of one row alone
abbrev pub one_held : Row → Held → HeldDatasets
one_held x h = record { committed = set_at x h.committed empty; pending = set_at x h.pending empty }

-- the dataset of a view
abbrev pub viewed : View → HeldDatasets → Dataset
viewed Committed h = h.committed
viewed Pending h = h.pending

-- every weight is in range
abbrev pub AllInRange : Dataset → Type 0
AllInRange A = (x : Row) → InRange (at A x)

-- once put, the row x holds h, and every other row what it held
abbrev pub PutsAt : Row → Held → HeldRows → HeldRows → Type 0
PutsAt x h old new = FindsAt x (Some h) old new

-- once put, the pending weight of the row x is w, its committed one stays, and so does what every other row holds
abbrev pub PendsRow : Row → Ratio → HeldRows → HeldRows → Type 0
PendsRow x w old new = PutsAt x (record { committed = at (committed_of old) x; pending = w }) old new

-- what is kept of a row whose two weights are w: nothing where w is 0
abbrev pub settled_row : Ratio → Option Held
settled_row w = if is_zero w then None else Some (record { committed = w; pending = w })

-- once settled, both weights of the row x are w, and every other row holds what it held
abbrev pub SettlesAt : Row → Ratio → HeldRows → HeldRows → Type 0
SettlesAt x w old new = FindsAt x (settled_row w) old new

-- once its weight in the view is made both, the row x is settled at it
abbrev pub SettlesInView : View → Row → HeldRows → HeldRows → Type 0
SettlesInView view x old new = SettlesAt x (at (seen_by view old) x) old new

-- a row that is kept with nothing pending has a weight other than 0
abbrev pub IsSettledRow : Held → Type 0
IsSettledRow h = (h.pending ≡ h.committed) × (h.committed ≢ zero_ratio)

-- the rows that hold weights hold those of A and of B, and no other row differs between A and B
abbrev pub HoldsStep : HeldRows → Dataset → Dataset → Type 0
HoldsStep es A B =
    (x : Row) → MatchOption (lookup (same_row x) es) (at B x ≡ at A x) (λ h. (h.committed ≡ at A x) × (h.pending ≡ at B x))

-- h has the weights of the row x in A and in whatever the rows es make of A
abbrev pub HasStepWeights : HeldRows → Dataset → Row → Held → Type 0
HasStepWeights es A x h = (B : Dataset) → HoldsStep es A B → (h.committed ≡ at A x) × (h.pending ≡ at B x)

-- they are what the rows es change, whatever they are taken to change
abbrev pub AreStepChanges : HeldRows → List Change → Type 0
AreStepChanges es changes = (A B : Dataset) → HoldsStep es A B → IsChangeList changes A B

-- the two weights of a row differ
abbrev pub is_changed : Held → Bool
is_changed h = not (eq_by_cmp ratio_cmp h.committed h.pending)

-- the rows whose two weights differ, as changes
abbrev pub held_changes : HeldRows → List Change
held_changes es =
    map (λ e. record { row = e.0; old = e.1.committed; new = e.1.pending }) (filter (λ e. is_changed e.1) es)

-- what a set keeps: no other rows than the touched ones with a pending change or of weight 0, its length, and
-- the range of its weights
pub record IsSet (es : HeldRows) (touched : List Row) (len : ℕ) : Type 0 where
  pub settled : AllBut IsSettledRow touched es
  pub counted : len ≡ length (rows (committed_of es))
  pub committed_in_range : AllInRange (committed_of es)
  pub pending_in_range : AllInRange (pending_of es)
