-- The laws of Filter.
use Rattle.std.specs.Prelude.{◌≡◌, ◌≢◌, ◌↔◌, Bool, true, false, cond, refl}
use Rattle.std.proofs.Common.{sym, ap, subst, ◌∙◌}
use Rattle.ratios.specs.Range.{InRange}
use Rattle.ratios.specs.Ratio.{one_ratio, ratio_mul, zero_ratio}
use Rattle.datasets.specs.Dataset.{Dataset, at, empty}
use Rattle.datasets.specs.Entries.{Row}
use Rattle.datasets.proofs.Rows.{same_row-itself}
use Rattle.datasets.proofs.Weights.{at-empty}
use Rattle.operators.specs.InRange.{weights_in_range}
use Rattle.operators.specs.Operators.{filter_weight, filtered}
use Rattle.operators.proofs.Tabulated.{at-filtered}
use Rattle.plan_model.specs.Evaluation.{passes}
use Rattle.weighted_set.specs.Held.{AllInRange}
use Rattle.weighted_set.specs.Parts.{FactoredInRange, part_of}
use Rattle.weighted_set.specs.declared.part_op.Side.{Side}
use Rattle.weighted_set.specs.declared.part_op.Side.TheVariants.{Left, Right}
use Rattle.ratios.proofs.Products.{ratio_mul_one, ratio_mul_zero}
use Rattle.weighted_set.proofs.Parts.{FactoredInRange-ones, at-part_of}
use Rattle.weighted_set.proofs.Sets.{InRange-zero}
use Rattle.op_parts.specs.OneRow.{one_row}
use Rattle.op_parts.specs.Takes.{HasOnly}
use Rattle.op_parts.proofs.OneRows.{at-one_row, factor-in_part, weighed_row}
use Rattle.op_parts.proofs.Ranges.{weights_in_range-all}
use Rattle.op_linear.specs.Filter.{FilterParts, filter_keys}

-- a factor other than 0 is that of the row itself, which passes
pub factor_is_own : (op : FilterParts) (x k : Row) → at (filter_keys op Left x) k ≢ zero_ratio → (at (filter_keys op Left x) k ≡ one_ratio) × (x ≡ k)
factor_is_own op x k =
    elim (passes op.test x) as (λ b. at (cond b (one_row x one_ratio) empty) k ≢ zero_ratio → (at (cond b (one_row x one_ratio) empty) k ≡ one_ratio) × (x ≡ k)) [
      | true ↦ λ h. let p = weighed_row x one_ratio k h in (p.0, sym p.1)
      | false ↦ λ h. absurd (h (at-empty k))
    ]

pub filter_factors : (op : FilterParts) (side : Side) (x k : Row) → at (filter_keys op side x) k ≢ zero_ratio → at (filter_keys op side x) k ≡ one_ratio
filter_factors op Left x k h = (factor_is_own op x k h).0
filter_factors op Right x k h = absurd (h (at-empty k))

pub filter_takes_part : (op : FilterParts) (k : Row) (A : Dataset) → HasOnly k (part_of (filter_keys op Left) k A)
filter_takes_part op k A z h = (factor_is_own op z k (factor-in_part (filter_keys op Left) k A z h)).1

own_weight : (op : FilterParts) (A : Dataset) (z : Row) → ratio_mul (at A z) (at (filter_keys op Left z) z) ≡ filter_weight (passes op.test) A z
own_weight op A z =
    elim (passes op.test z) as (λ b. ratio_mul (at A z) (at (cond b (one_row z one_ratio) empty) z) ≡ cond b (at A z) zero_ratio) [
      | true ↦ ap (ratio_mul (at A z)) (at-one_row z one_ratio z ∙ ap (λ b. cond b one_ratio zero_ratio) (same_row-itself z)) ∙ ratio_mul_one (at A z)
      | false ↦ ap (ratio_mul (at A z)) (at-empty z) ∙ ratio_mul_zero (at A z)
    ]

pub filter_together : (op : FilterParts) (A : Dataset) (z : Row) → at (filtered (passes op.test) A) z ≡ at (part_of (filter_keys op Left) z A) z
filter_together op A z = at-filtered (passes op.test) A z ∙ sym (own_weight op A z) ∙ sym (at-part_of (filter_keys op Left) z A z)

filtered_in_range : (test : Row → Bool) (A : Dataset) → AllInRange A → AllInRange (filtered test A)
filtered_in_range test A h z =
    subst InRange (sym (at-filtered test A z)) (elim (test z) as (λ b. InRange (cond b (at A z) zero_ratio)) [ true ↦ h z | false ↦ InRange-zero ])

pub filter_fits_by_part : (op : FilterParts) (A B : Dataset) → AllInRange A → AllInRange B →
    (weights_in_range (filtered (passes op.test) A) ≡ true) ↔ (FactoredInRange (filter_keys op Left) A × FactoredInRange (filter_keys op Right) B × ((k : Row) → true ≡ true))
filter_fits_by_part op A B a b = (
  λ _. (FactoredInRange-ones (filter_keys op Left) (filter_factors op Left) InRange-zero A a, FactoredInRange-ones (filter_keys op Right) (filter_factors op Right) InRange-zero B b, λ _. refl),
  λ _. weights_in_range-all (filtered (passes op.test) A) (filtered_in_range (passes op.test) A a),
)
