-- The keys of a row, as they are listed.
use Rattle.std.specs.Prelude.{◌≡◌, true, false, cond, [], ◌∷◌}
use Rattle.std.proofs.Common.{ap, ◌∙◌}
use Rattle.ratios.specs.Ratio.{one_ratio}
use Rattle.datasets.specs.Dataset.{empty}
use Rattle.datasets.specs.Entries.{Row}
use Rattle.plan_model.specs.Evaluation.{passes}
use Rattle.weighted_set.specs.declared.part_op.Side.TheVariants.{Left}
use Rattle.op_parts.specs.OneRow.{one_row}
use Rattle.op_parts.proofs.OneRows.{entries-empty, entries-one_key}
use Rattle.op_linear.specs.Filter.{FilterParts, filter_keys}

pub keys-kept : (op : FilterParts) (x : Row) → passes op.test x ≡ true → (filter_keys op Left x).entries ≡ (x, one_ratio) ∷ []
keys-kept op x kept = ap (λ b. (cond b (one_row x one_ratio) empty).entries) kept ∙ entries-one_key x

pub keys-left_out : (op : FilterParts) (x : Row) → passes op.test x ≡ false → (filter_keys op Left x).entries ≡ []
keys-left_out op x out = ap (λ b. (cond b (one_row x one_ratio) empty).entries) out ∙ entries-empty
