-- The sums at each row, while entries are added one by one.
use Rattle.std.specs.Prelude.{◌≡◌, Bool, true, false, ◌&&◌, cond, filter, [], ◌∷◌, ◌++◌, map, Some, None, refl}
use Rattle.std.specs.List.{list_all}
use Rattle.std.proofs.Common.{sym, ap, ap₂, ◌∙◌}
use Rattle.std.proofs.lemmas.Bool.{and_from, and_parts}
use Rattle.ratios.specs.Range.{all_in_range, in_range}
use Rattle.ratios.specs.Ratio.{Ratio, ratio_add, ratio_half}
use Rattle.ratios.specs.Sums.{running_sums_after}
use Rattle.datasets.specs.Dataset.{Dataset, add_at, at, running_weights, with_added}
use Rattle.datasets.specs.Entries.{Entries, Row, same_row}
use Rattle.datasets.proofs.Rows.{same_row-equal, same_row-itself}
use Rattle.datasets.proofs.Weights.{at-add_at}
use Rattle.operators.specs.Weights.{weights_at}
use Rattle.level_walks.specs.Walks.{AtomGaps, half_fits, with_half, with_halves}

-- ---- sums at one row

-- the sums at z, from its weight in A on
abbrev sums_at : Dataset → Row → Entries → Bool
sums_at A z es = all_in_range (running_sums_after (at A z) (weights_at z es))

-- those at the row of the first entry, and those at another row
sums_here : (A : Dataset) (z : Row) (e : Row × Ratio) (es : Entries) → same_row z e.0 ≡ true → sums_at A z (e ∷ es) ≡ (in_range (ratio_add (at A z) e.1) && sums_at (add_at e.0 e.1 A) z es)
sums_here A z e es h =
    ap (λ b. all_in_range (running_sums_after (at A z) (map (λ e. e.1) (cond b (e ∷ filter (λ e. same_row z e.0) es) (filter (λ e. same_row z e.0) es))))) h
    ∙ ap (λ q. in_range (ratio_add (at A z) e.1) && all_in_range (running_sums_after q (weights_at z es))) (sym (at-add_at e.0 e.1 A z ∙ ap (λ b. cond b (ratio_add (at A z) e.1) (at A z)) h))

sums_elsewhere : (A : Dataset) (z : Row) (e : Row × Ratio) (es : Entries) → same_row z e.0 ≡ false → sums_at A z (e ∷ es) ≡ sums_at (add_at e.0 e.1 A) z es
sums_elsewhere A z e es h =
    ap (λ b. all_in_range (running_sums_after (at A z) (map (λ e. e.1) (cond b (e ∷ filter (λ e. same_row z e.0) es) (filter (λ e. same_row z e.0) es))))) h
    ∙ ap (λ q. all_in_range (running_sums_after q (weights_at z es))) (sym (at-add_at e.0 e.1 A z ∙ ap (λ b. cond b (ratio_add (at A z) e.1) (at A z)) h))

pub sums-each : (A : Dataset) (es : Entries) → all_in_range (running_weights A es) ≡ true → (z : Row) → sums_at A z es ≡ true
sums-each A [] h z = refl
sums-each A (e ∷ es) h z =
    let p = and_parts (in_range (ratio_add (at A e.0) e.1)) (all_in_range (running_weights (add_at e.0 e.1 A) es)) h in
    let rest = sums-each (add_at e.0 e.1 A) es p.1 z in
    elim (same_row z e.0) as (λ b. same_row z e.0 ≡ b → sums_at A z (e ∷ es) ≡ true) [
      | true ↦ λ same. sums_here A z e es same ∙ ap₂ (λ a b. a && b) (ap (λ x. in_range (ratio_add (at A x) e.1)) (same_row-equal z e.0 same) ∙ p.0) rest
      | false ↦ λ other. sums_elsewhere A z e es other ∙ rest
    ] refl

pub sums-all : (A : Dataset) (es : Entries) → ((z : Row) → sums_at A z es ≡ true) → all_in_range (running_weights A es) ≡ true
sums-all A [] h = refl
sums-all A (e ∷ es) h =
    let here = and_parts (in_range (ratio_add (at A e.0) e.1)) (sums_at (add_at e.0 e.1 A) e.0 es) (sym (sums_here A e.0 e es (same_row-itself e.0)) ∙ h e.0) in
    and_from (in_range (ratio_add (at A e.0) e.1)) (all_in_range (running_weights (add_at e.0 e.1 A) es)) here.0
    (sums-all (add_at e.0 e.1 A) es (λ z.
    elim (same_row z e.0) as (λ b. same_row z e.0 ≡ b → sums_at (add_at e.0 e.1 A) z es ≡ true) [
      | true ↦ λ same. ap (λ x. sums_at (add_at e.0 e.1 A) x es) (same_row-equal z e.0 same) ∙ here.1
      | false ↦ λ other. sym (sums_elsewhere A z e es other) ∙ h z
    ] refl))

-- ---- levels added one by one

-- the entries that levels add
abbrev pub half_entries : Row → AtomGaps → Entries
half_entries k ds = map (λ d. (k ++ d.0 ∷ [], ratio_half d.1)) ds

abbrev pub gaps_in_range : AtomGaps → Bool
gaps_in_range ds = list_all (λ d. in_range d.1 && in_range (ratio_half d.1)) ds

regrouped : (a b c g r : Bool) → ((a && (b && c)) && (g && r)) ≡ (((a && b) && g) && (c && r))
regrouped true true true g r = refl
regrouped true true false true r = refl
regrouped true true false false r = refl
regrouped true false c g r = refl
regrouped false b c g r = refl

pub with_halves-checked : (k : Row) (A : Dataset) (ds : AtomGaps) → with_halves k A ds ≡ cond (gaps_in_range ds && all_in_range (running_weights A (half_entries k ds))) (Some (with_added A (half_entries k ds))) None
with_halves-checked k A [] = refl
with_halves-checked k A (d ∷ ds) =
    let x = k ++ d.0 ∷ [] in
    let h = ratio_half d.1 in
    let B = with_half k A d in
    let g = gaps_in_range ds in
    let r = all_in_range (running_weights B (half_entries k ds)) in
    let out = with_added B (half_entries k ds) in
    ap (λ o. cond (in_range d.1 && half_fits k A d) o None) (with_halves-checked k B ds)
    ∙ joined (in_range d.1 && half_fits k A d) (g && r) out
    ∙ ap (λ b. cond b (Some out) None) (regrouped (in_range d.1) (in_range h) (in_range (ratio_add (at A x) h)) g r)
  where
    joined : (a b : Bool) (out : Dataset) → cond a (cond b (Some out) None) None ≡ cond (a && b) (Some out) None
    joined true b out = refl
    joined false b out = refl
