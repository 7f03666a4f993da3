-- The datasets of a table of rows that hold two weights.
use Rattle.std.specs.Prelude.{◌≤◌, ◌≡◌, Bool, true, false, cond, IfSome, [], ◌∷◌, map, length, Option, Some, None, refl, unwrap_or}
use Rattle.std.specs.Map.{lookup}
use Rattle.std.specs.Option.{option_map}
use Rattle.std.proofs.Common.{sym, ap, ◌∙◌, arith}
use Rattle.std.proofs.lemmas.Map.Made.{lookup-map_values}
use Rattle.ratios.specs.Ratio.{Ratio, zero_ratio}
use Rattle.datasets.specs.Dataset.{at, rows, empty, set_at, dataset_of}
use Rattle.datasets.specs.Entries.{Row, Entries, same_row, row_count, weight_in, is_zero}
use Rattle.datasets.proofs.Counts.{length-set_at}
use Rattle.datasets.proofs.Equality.{same_weights}
use Rattle.datasets.proofs.Rows.{other_if_not_is_zero, same_row-turned, zero_if_is_zero}
use Rattle.datasets.proofs.Weights.{at-dataset_of, at-set_at}
use Rattle.weighted_set.specs.declared.held.Held.{Held}
use Rattle.weighted_set.specs.declared.held.View.{View}
use Rattle.weighted_set.specs.declared.held.View.TheVariants.{Committed, Pending}
use Rattle.weighted_set.specs.Held.{HeldRows, IsSettledRow, SettlesAt, committed_of, dataset_by, pending_of, seen_by, settled_row, viewed_weight}
use Rattle.weighted_set.specs.Tables.{AllBut, FindsAt}

-- a weight that is found, and 0 where there is none
abbrev pub weight_found : (Held → Ratio) → Option Held → Ratio
weight_found weight None = zero_ratio
weight_found weight (Some h) = weight h

found_mapped : (f : Held → Ratio) (o : Option Held) → unwrap_or (option_map f o) zero_ratio ≡ weight_found f o
found_mapped f None = refl
found_mapped f (Some h) = refl

pub at-dataset_by : (f : Held → Ratio) (es : HeldRows) (x : Row) → at (dataset_by f es) x ≡ weight_found f (lookup (same_row x) es)
at-dataset_by f es x =
    at-dataset_of (map (λ e. (e.0, f e.1)) es) x
    ∙ ap (λ o. unwrap_or o zero_ratio) (lookup-map_values f (same_row x) es)
    ∙ found_mapped f (lookup (same_row x) es)

-- ---- one row is changed
weight_or_zero : (b : Bool) (o p : Option Ratio) → unwrap_or (cond b o p) zero_ratio ≡ cond b (unwrap_or o zero_ratio) (unwrap_or p zero_ratio)
weight_or_zero true o p = refl
weight_or_zero false o p = refl

pub dataset_of-weighs : (x : Row) (o : Option Ratio) (old new : Entries) → FindsAt x o old new → dataset_of new ≡ set_at x (unwrap_or o zero_ratio) (dataset_of old)
dataset_of-weighs x o old new h =
    let w = unwrap_or o zero_ratio in
    same_weights (dataset_of new) (set_at x w (dataset_of old)) (λ y.
    at-dataset_of new y
    ∙ ap (λ p. unwrap_or p zero_ratio) (h y)
    ∙ weight_or_zero (same_row x y) o (lookup (same_row y) old)
    ∙ ap (λ b. cond b w (weight_in old y)) (same_row-turned x y)
    ∙ ap (cond (same_row y x) w) (sym (at-dataset_of old y))
    ∙ sym (at-set_at x w (dataset_of old) y))

mapped_or : (f : Held → Ratio) (b : Bool) (o p : Option Held) → option_map f (cond b o p) ≡ cond b (option_map f o) (option_map f p)
mapped_or f true o p = refl
mapped_or f false o p = refl

pub dataset_by-finds : (f : Held → Ratio) (x : Row) (o : Option Held) (old new : HeldRows) → FindsAt x o old new → dataset_by f new ≡ set_at x (weight_found f o) (dataset_by f old)
dataset_by-finds f x o old new h =
    dataset_of-weighs x (option_map f o) (map (λ e. (e.0, f e.1)) old) (map (λ e. (e.0, f e.1)) new) (λ q.
    lookup-map_values f (same_row q) new
    ∙ ap (option_map f) (h q)
    ∙ mapped_or f (same_row x q) o (lookup (same_row q) old)
    ∙ ap (cond (same_row x q) (option_map f o)) (sym (lookup-map_values f (same_row q) old)))
    ∙ ap (λ w. set_at x w (dataset_by f old)) (found_mapped f o)

-- ---- a row is settled
found_settled : (f : Held → Ratio) → ((w : Ratio) → f (record { committed = w; pending = w }) ≡ w) → (w : Ratio) → weight_found f (settled_row w) ≡ w
found_settled f either w =
    elim (is_zero w) as (λ b. is_zero w ≡ b → weight_found f (cond b None (Some (record { committed = w; pending = w }))) ≡ w) [
      | true ↦ λ e. sym (zero_if_is_zero w e)
      | false ↦ λ e. either w
    ] refl

-- either weight of a settled row is w
pub dataset_by-settles : (f : Held → Ratio) → ((w : Ratio) → f (record { committed = w; pending = w }) ≡ w) → (x : Row) (w : Ratio) (old new : HeldRows) → SettlesAt x w old new → dataset_by f new ≡ set_at x w (dataset_by f old)
dataset_by-settles f either x w old new h = dataset_by-finds f x (settled_row w) old new h ∙ ap (λ v. set_at x v (dataset_by f old)) (found_settled f either w)

pub committed_of-settles : (x : Row) (w : Ratio) (old new : HeldRows) → SettlesAt x w old new → committed_of new ≡ set_at x w (committed_of old)
committed_of-settles = dataset_by-settles (λ h. h.committed) (λ w. refl)

pub pending_of-settles : (x : Row) (w : Ratio) (old new : HeldRows) → SettlesAt x w old new → pending_of new ≡ set_at x w (pending_of old)
pending_of-settles = dataset_by-settles (λ h. h.pending) (λ w. refl)

-- where both weights are w, either view has w
pub viewed_both : (view : View) (h : Held) (w : Ratio) → h.committed ≡ w → h.pending ≡ w → viewed_weight view h ≡ w
viewed_both Committed h w e f = e
viewed_both Pending h w e f = f

pub seen_by-settles : (view : View) (x : Row) (w : Ratio) (old new : HeldRows) → SettlesAt x w old new → seen_by view new ≡ set_at x w (seen_by view old)
seen_by-settles view = dataset_by-settles (viewed_weight view) (λ w. viewed_both view (record { committed = w; pending = w }) w refl refl)

-- what is kept of it has a weight other than 0
pub settled_row-is_settled : (w : Ratio) → IfSome (settled_row w) IsSettledRow
settled_row-is_settled w =
    elim (is_zero w) as (λ b. is_zero w ≡ b → IfSome (cond b None (Some (record { committed = w; pending = w }))) IsSettledRow) [
      | true ↦ λ e. tt
      | false ↦ λ e. (refl, other_if_not_is_zero w e)
    ] refl

pub settled_row-zero : (w : Ratio) → is_zero w ≡ true → settled_row w ≡ None
settled_row-zero w e = ap (λ b. cond b None (Some (record { committed = w; pending = w }))) e

pub settled_row-other : (w : Ratio) → is_zero w ≡ false → settled_row w ≡ Some (record { committed = w; pending = w })
settled_row-other w e = ap (λ b. cond b None (Some (record { committed = w; pending = w }))) e

-- where no row is touched, nothing is pending
same_found : (o : Option Held) → IfSome o IsSettledRow → weight_found (λ h. h.pending) o ≡ weight_found (λ h. h.committed) o
same_found None h = refl
same_found (Some held) h = h.0

pub same_if_untouched : (es : HeldRows) → AllBut IsSettledRow [] es → pending_of es ≡ committed_of es
same_if_untouched es h = same_weights (pending_of es) (committed_of es) (λ x.
    at-dataset_by (λ h. h.pending) es x ∙ same_found (lookup (same_row x) es) (h x refl) ∙ sym (at-dataset_by (λ h. h.committed) es x))

-- ---- how many rows
pub row_count-le : (w : Ratio) → row_count w ≤ 1
row_count-le w = elim (is_zero w) as (λ b. cond b 0 1 ≤ 1) [ true ↦ omega arith | false ↦ omega arith ]

pub length-dataset_by : (f : Held → Ratio) (es : HeldRows) → length (rows (dataset_by f es)) ≤ length es
unfolding dataset_of empty
length-dataset_by f [] = omega arith
length-dataset_by f (e ∷ es) =
    let a = length-set_at e.0 (f e.1) (dataset_by f es) in
    let b = row_count-le (f e.1) in
    let c = length-dataset_by f es in
    omega arith
