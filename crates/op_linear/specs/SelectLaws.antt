-- The laws of Select.
use Rattle.std.specs.Prelude.{◌≡◌, ◌≢◌, ◌↔◌, true, ◌&&◌, cond}
use Rattle.std.proofs.Common.{sym, ap, ap₂, subst, ◌∙◌}
use Rattle.std.proofs.lemmas.Bool.{and_parts}
use Rattle.ratios.specs.Range.{InRange}
use Rattle.ratios.specs.Ratio.{one_ratio, zero_ratio}
use Rattle.ratios.specs.Sums.{ratio_sum, runs_in_range}
use Rattle.datasets.specs.Dataset.{Dataset, at, rows}
use Rattle.datasets.specs.Entries.{Row}
use Rattle.datasets.proofs.Rows.{same_row-itself}
use Rattle.datasets.proofs.Weights.{at-empty}
use Rattle.operators.specs.InRange.{select_in_range}
use Rattle.operators.specs.Operators.{select_terms, selected}
use Rattle.operators.proofs.Gathered.{at-gathered}
use Rattle.plan_model.specs.Evaluation.{row_of}
use Rattle.weighted_set.specs.Held.{AllInRange}
use Rattle.weighted_set.specs.Parts.{FactoredInRange, part_of}
use Rattle.weighted_set.specs.declared.part_op.Side.{Side}
use Rattle.weighted_set.specs.declared.part_op.Side.TheVariants.{Left, Right}
use Rattle.op_parts.proofs.OneRows.{at-one_row, weighed_row}
use Rattle.op_parts.proofs.Ranges.{AllInRange-tested, weights_in_range-all}
use Rattle.weighted_set.proofs.Parts.{FactoredInRange-ones}
use Rattle.weighted_set.proofs.Sets.{InRange-zero}
use Rattle.op_linear.specs.Select.{SelectParts, select_fits, select_keys}
use Rattle.op_linear.specs.Summed.{summed, sums_in_range, weights}
use Rattle.op_linear.specs.Sums.{runs-tested, select_in_range-everywhere, sum_in_range, weights-part}

pub select_factors : (op : SelectParts) (side : Side) (x k : Row) → at (select_keys op side x) k ≢ zero_ratio → at (select_keys op side x) k ≡ one_ratio
select_factors op Left x k h = (weighed_row (row_of op.row x) one_ratio k h).0
select_factors op Right x k h = absurd (h (at-empty k))

pub summed_owned : (k : Row) (A : Dataset) (z : Row) → at (summed k A) z ≢ zero_ratio → z ≡ k
summed_owned k A z h = (weighed_row k (ratio_sum (weights A)) z h).1

at-selected : (op : SelectParts) (A : Dataset) (z : Row) → at (selected (row_of op.row) A) z ≡ ratio_sum (select_terms (row_of op.row) A z)
at-selected op A z = at-gathered (row_of op.row) (at A) (rows A) z

pub select_together : (op : SelectParts) (A : Dataset) (z : Row) → at (selected (row_of op.row) A) z ≡ at (summed z (part_of (select_keys op Left) z A)) z
select_together op A z =
    let sum = ratio_sum (weights (part_of (select_keys op Left) z A)) in
    at-selected op A z
    ∙ ap ratio_sum (sym (weights-part (row_of op.row) z A))
    ∙ sym (at-one_row z sum z ∙ ap (λ b. cond b sum zero_ratio) (same_row-itself z))

pub select_fits_by_part : (op : SelectParts) (A B : Dataset) → AllInRange A → AllInRange B →
    (select_fits op A ≡ true) ↔
    (FactoredInRange (select_keys op Left) A × FactoredInRange (select_keys op Right) B × ((k : Row) → sums_in_range (part_of (select_keys op Left) k A) ≡ true))
select_fits_by_part op A B a b = (
  λ fits. (FactoredInRange-ones (select_keys op Left) (select_factors op Left) InRange-zero A a, FactoredInRange-ones (select_keys op Right) (select_factors op Right) InRange-zero B b, parts fits),
  λ h. whole h.2,
)
  where
    parts : select_fits op A ≡ true → (k : Row) → sums_in_range (part_of (select_keys op Left) k A) ≡ true
    parts fits k = ap runs_in_range (weights-part (row_of op.row) k A) ∙ runs-tested (row_of op.row) A (and_parts _ _ fits).0 k

    whole : ((k : Row) → sums_in_range (part_of (select_keys op Left) k A) ≡ true) → select_fits op A ≡ true
    whole h =
        let runs : (k : Row) → runs_in_range (select_terms (row_of op.row) A k) ≡ true = λ k. sym (ap runs_in_range (weights-part (row_of op.row) k A)) ∙ h k in
        ap₂ (λ a b. a && b) (select_in_range-everywhere (row_of op.row) A runs)
        (weights_in_range-all (selected (row_of op.row) A) (λ z. subst InRange (sym (at-selected op A z)) (sum_in_range (select_terms (row_of op.row) A z) (runs z))))

pub select_output_in_range : (op : SelectParts) (A : Dataset) → select_fits op A ≡ true → AllInRange (selected (row_of op.row) A)
select_output_in_range op A fits = AllInRange-tested (selected (row_of op.row) A) (and_parts (select_in_range (row_of op.row) A) _ fits).1
