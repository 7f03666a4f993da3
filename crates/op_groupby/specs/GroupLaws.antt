-- The laws of Group.
use Rattle.std.specs.Prelude.{◌≡◌, ◌≢◌, ◌↔◌, Bool, true}
use Rattle.std.proofs.Common.{sym, ap, ◌∙◌}
use Rattle.std.proofs.lemmas.Bool.{and_from, and_parts}
use Rattle.ratios.specs.Ratio.{one_ratio, ratio_mul, zero_ratio}
use Rattle.ratios.proofs.Products.{ratio_mul_one}
use Rattle.record_text.specs.KindLists.{kinds_of}
use Rattle.datasets.specs.Dataset.{Dataset, at, rows}
use Rattle.datasets.specs.Entries.{Row}
use Rattle.datasets.proofs.Weights.{at-empty}
use Rattle.operators.specs.InRange.{group_in_range, weights_in_range}
use Rattle.operators.specs.Operators.{grouped, part}
use Rattle.operators.proofs.SingleWeights.{AllByRecursion-has_row}
use Rattle.plan_model.specs.Evaluation.{reduced_to, row_of}
use Rattle.plan_model.specs.Types.{HasColumns}
use Rattle.weighted_set.specs.Held.{AllInRange}
use Rattle.weighted_set.specs.Parts.{FactoredInRange, part_of}
use Rattle.weighted_set.specs.declared.part_op.Side.{Side}
use Rattle.weighted_set.specs.declared.part_op.Side.TheVariants.{Left, Right}
use Rattle.weighted_set.proofs.Parts.{FactoredInRange-ones, at-part_of, at-present}
use Rattle.weighted_set.proofs.Sets.{InRange-zero}
use Rattle.op_parts.proofs.Members.{at-weighed}
use Rattle.op_parts.proofs.OneKeys.{part_of-one_key}
use Rattle.op_parts.proofs.OneRows.{factor-in_part, weighed_row}
use Rattle.op_parts.proofs.Ranges.{AllInRange-tested, weights_in_range-all}
use Rattle.level_walks.specs.Levels.{group_part, key_of, part_in_range}
use Rattle.level_walks.proofs.Grouped.{at-grouped, parts-in_range, weights-in_range, whole-in_range}
use Rattle.op_groupby.specs.Group.{GroupParts, HasKey, group_fits, group_keys}

-- the rows of a key
abbrev own_part : GroupParts → Row → Dataset → Dataset
own_part op k A = part_of (group_keys op Left) k A

own_part-part : (op : GroupParts) (k : Row) (A : Dataset) → own_part op k A ≡ part (row_of op.key) k A
own_part-part op k A = part_of-one_key (row_of op.key) k A

group_factors : (op : GroupParts) (side : Side) (x k : Row) → at (group_keys op side x) k ≢ zero_ratio → at (group_keys op side x) k ≡ one_ratio
group_factors op Left x k h = (weighed_row (row_of op.key x) one_ratio k h).0
group_factors op Right x k h = absurd (h (at-empty k))

-- ---- outputs
pub group_together : (op : GroupParts) (A : Dataset) (z : Row) → at (grouped (row_of op.key) (reduced_to op.reduce) A) z ≡ at (group_part (reduced_to op.reduce) (key_of z) (own_part op (key_of z) A)) z
group_together op A z = at-grouped (row_of op.key) (reduced_to op.reduce) A z ∙ ap (λ P. at (group_part (reduced_to op.reduce) (key_of z) P) z) (sym (own_part-part op (key_of z) A))

-- ---- range
module _ (op : GroupParts) (A : Dataset) where
  -- each gap, each half gap and each running sum of the whole
  abbrev inside : Bool
  inside = group_in_range (row_of op.key) (reduced_to op.reduce) A

  abbrev output : Dataset
  output = grouped (row_of op.key) (reduced_to op.reduce) A

  abbrev part_fits : Row → Bool
  part_fits k = part_in_range (reduced_to op.reduce) k (own_part op k A)

  parts : group_fits op A ≡ true → (k : Row) → part_fits k ≡ true
  parts fits k =
      ap (part_in_range (reduced_to op.reduce) k) (own_part-part op k A)
      ∙ parts-in_range (row_of op.key) (reduced_to op.reduce) A (and_parts inside (weights_in_range output) fits).0 k

  whole : ((k : Row) → part_fits k ≡ true) → group_fits op A ≡ true
  whole h =
      let each : (k : Row) → part_in_range (reduced_to op.reduce) k (part (row_of op.key) k A) ≡ true = λ k. sym (ap (part_in_range (reduced_to op.reduce) k) (own_part-part op k A)) ∙ h k in
      and_from inside (weights_in_range output)
      (whole-in_range (row_of op.key) (reduced_to op.reduce) A each)
      (weights_in_range-all output (weights-in_range (row_of op.key) (reduced_to op.reduce) A InRange-zero each))

  pub group_fits_by_part : (B : Dataset) → AllInRange A → AllInRange B →
      (group_fits op A ≡ true) ↔ (FactoredInRange (group_keys op Left) A × FactoredInRange (group_keys op Right) B × ((k : Row) → part_in_range (reduced_to op.reduce) k (part_of (group_keys op Left) k A) ≡ true))
  group_fits_by_part B a b = (
    λ fits. (FactoredInRange-ones (group_keys op Left) (group_factors op Left) InRange-zero A a, FactoredInRange-ones (group_keys op Right) (group_factors op Right) InRange-zero B b, parts fits),
    λ h. whole h.2,
  )

  pub group_output_in_range : group_fits op A ≡ true → AllInRange (grouped (row_of op.key) (reduced_to op.reduce) A)
  group_output_in_range fits = AllInRange-tested output (and_parts inside (weights_in_range output) fits).1

-- ---- what it takes
weighed_own : (op : GroupParts) (k : Row) (A : Dataset) (x : Row) → at (own_part op k A) x ≢ zero_ratio → (at (own_part op k A) x ≡ at A x) × (row_of op.key x ≡ k)
weighed_own op k A x weighed =
    let own = weighed_row (row_of op.key x) one_ratio k (factor-in_part (group_keys op Left) k A x weighed) in
    (at-part_of (group_keys op Left) k A x ∙ ap (ratio_mul (at A x)) own.0 ∙ ratio_mul_one (at A x), sym own.1)

pub group_takes_part : (op : GroupParts) (k : Row) (A : Dataset) → HasColumns op.cols A → HasColumns op.cols (part_of (group_keys op Left) k A) × HasKey op k (part_of (group_keys op Left) k A)
group_takes_part op k A columns = (
  AllByRecursion-has_row (λ x. kinds_of x ≡ op.cols) (rows (own_part op k A)) (λ x there.
      let weighed = at-present (own_part op k A) x there in
      at-weighed (λ x. kinds_of x ≡ op.cols) A x columns (λ none. weighed ((weighed_own op k A x weighed).0 ∙ none))),
  λ x weighed. (weighed_own op k A x weighed).1,
)
