-- Parts where each row has one key.
use Rattle.std.specs.Prelude.{◌≡◌, Bool, true, false, cond}
use Rattle.std.proofs.Common.{ap, sym, ◌∙◌}
use Rattle.ratios.specs.Ratio.{Ratio, one_ratio, ratio_mul, zero_ratio}
use Rattle.ratios.proofs.Products.{ratio_mul_one, ratio_mul_zero}
use Rattle.datasets.specs.Dataset.{Dataset, at}
use Rattle.datasets.specs.Entries.{Row, same_row}
use Rattle.datasets.proofs.Equality.{same_weights}
use Rattle.operators.specs.Keys.{one_key}
use Rattle.operators.specs.Operators.{part}
use Rattle.operators.proofs.Tabulated.{at-filtered}
use Rattle.weighted_set.specs.Parts.{part_of}
use Rattle.weighted_set.proofs.Parts.{at-part_of}
use Rattle.op_parts.proofs.OneRows.{at-one_row}

-- where each row has one key, with the factor 1, the part of a key is the rows of that key, with their weights
pub part_of-one_key : (f : Row → Row) (k : Row) (A : Dataset) → part_of (λ x. one_key (f x)) k A ≡ part f k A
part_of-one_key f k A =
    same_weights (part_of (λ x. one_key (f x)) k A) (part f k A) (λ x.
    at-part_of (λ x. one_key (f x)) k A x
    ∙ ap (ratio_mul (at A x)) (at-one_row (f x) one_ratio k)
    ∙ chosen (at A x) (same_row k (f x))
    ∙ sym (at-filtered (λ x. same_row k (f x)) A x))
  where
    chosen : (w : Ratio) (b : Bool) → ratio_mul w (cond b one_ratio zero_ratio) ≡ cond b w zero_ratio
    chosen w true = ratio_mul_one w
    chosen w false = ratio_mul_zero w
