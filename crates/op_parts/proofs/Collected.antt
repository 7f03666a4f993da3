-- Datasets that entries in row order make.
use Rattle.std.specs.Prelude.{◌≡◌, true, false, cond, filter, [], ◌∷◌, map, refl}
use Rattle.std.specs.List.{AllByRecursion}
use Rattle.std.specs.List.Sorted.{IsStrictlySortedBy}
use Rattle.std.proofs.Common.{sym, ap, subst, ◌∙◌}
use Rattle.std.proofs.lemmas.Bool.{or_parts}
use Rattle.ratios.specs.Range.{InRange}
use Rattle.ratios.specs.Ratio.{Ratio}
use Rattle.ratios.specs.Sums.{ratio_sum}
use Rattle.ratios.proofs.Additive.{ratio_zero_add}
use Rattle.datasets.specs.Dataset.{Dataset, dataset_of}
use Rattle.datasets.specs.Entries.{AreRising, Entries, NoneZero, Row, has_row, rows_of, same_row, weight_in}
use Rattle.datasets.proofs.Counts.{entries-dataset_of, weighing}
use Rattle.datasets.proofs.Equality.{dataset_of-entries, same_weights}
use Rattle.datasets.proofs.Rows.{same_row-equal}
use Rattle.datasets.proofs.Weights.{at-dataset_of, weight_in-cons}
use Rattle.operators.specs.Weights.{collected, weights_at}
use Rattle.operators.proofs.Gathered.{at-collected}
use Rattle.weighted_set.proofs.Parts.{absent_below}
use Rattle.weighted_set.proofs.Sets.{InRange-zero}

weights_at-absent : (es : Entries) (z : Row) → has_row (rows_of es) z ≡ false → weights_at z es ≡ []
weights_at-absent [] z h = refl
weights_at-absent (e ∷ es) z h =
    let p = or_parts (same_row z e.0) (has_row (rows_of es) z) h in
    ap (λ b. map (λ (e : Row × Ratio). e.1) (cond b (e ∷ filter (λ e. same_row z e.0) es) (filter (λ e. same_row z e.0) es))) p.0 ∙ weights_at-absent es z p.1

sum_at-rising : (es : Entries) (z : Row) → AreRising (rows_of es) → ratio_sum (weights_at z es) ≡ weight_in es z
unfolding IsStrictlySortedBy
sum_at-rising [] z rising = refl
sum_at-rising (e ∷ es) z rising =
    elim (same_row z e.0) as (λ b. same_row z e.0 ≡ b → ratio_sum (map (λ (e : Row × Ratio). e.1) (cond b (e ∷ filter (λ e. same_row z e.0) es) (filter (λ e. same_row z e.0) es))) ≡ cond b e.1 (weight_in es z)) [
      | true ↦ λ same.
          let absent = ap (has_row (rows_of es)) (same_row-equal z e.0 same) ∙ absent_below e.0 (rows_of es) rising.0 in
          ap (λ ws. ratio_sum (e.1 ∷ ws)) (weights_at-absent es z absent) ∙ ratio_zero_add e.1
      | false ↦ λ other. sum_at-rising es z rising.1
    ] refl
    ∙ sym (weight_in-cons z e es)

-- rows in order don't add up, so all weights but 0 are kept
pub entries-collected : (es : Entries) → AreRising (rows_of es) → (collected es).entries ≡ weighing es
entries-collected es rising =
    ap (λ (A : Dataset). A.entries) (same_weights (collected es) (dataset_of es) (λ z. at-collected es z ∙ sum_at-rising es z rising ∙ sym (at-dataset_of es z)))
    ∙ entries-dataset_of es rising

-- where none of them is 0, all are
pub entries-collected_whole : (es : Entries) → AreRising (rows_of es) → NoneZero es → (collected es).entries ≡ es
entries-collected_whole es rising none_zero =
    entries-collected es rising
    ∙ sym (entries-dataset_of es rising)
    ∙ ap (λ (A : Dataset). A.entries) (dataset_of-entries (record { entries = es; rising = rising; none_zero = none_zero }))

-- a weight of entries whose weights are in range
pub weight_in-in_range : (es : Entries) (z : Row) → AllByRecursion (λ e. InRange e.1) es → InRange (weight_in es z)
weight_in-in_range [] z h = InRange-zero
weight_in-in_range (e ∷ es) z h = subst InRange (sym (weight_in-cons z e es)) (elim (same_row z e.0) as (λ b. InRange (cond b e.1 (weight_in es z))) [ true ↦ h.0 | false ↦ weight_in-in_range es z h.1 ])
