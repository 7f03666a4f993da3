-- Datasets of one row, and the rows of parts.
use Rattle.std.specs.Prelude.{◌≡◌, ◌≢◌, Bool, true, false, cond, if◌then◌else◌, [], ◌∷◌, refl}
use Rattle.std.proofs.Common.{ap, ◌∙◌}
use Rattle.ratios.specs.Ratio.{Ratio, one_ratio, ratio_mul, zero_ratio}
use Rattle.ratios.proofs.Products.{ratio_mul_zero}
use Rattle.datasets.specs.Dataset.{Dataset, at, dataset_of, empty, set_at}
use Rattle.datasets.specs.Entries.{Row, is_zero, same_row}
use Rattle.datasets.proofs.Rows.{same_row-equal}
use Rattle.datasets.proofs.Weights.{at-dataset_of, weight_in-cons}
use Rattle.weighted_set.specs.Parts.{part_of}
use Rattle.weighted_set.proofs.Parts.{at-part_of}
use Rattle.op_parts.specs.OneRow.{one_row}

pub at-one_row : (x : Row) (w : Ratio) (z : Row) → at (one_row x w) z ≡ (if same_row z x then w else zero_ratio)
at-one_row x w z = at-dataset_of ((x, w) ∷ []) z ∙ weight_in-cons z (x, w) []

-- the only row with a weight
pub weighed_row : (x : Row) (w : Ratio) (z : Row) → at (one_row x w) z ≢ zero_ratio → (at (one_row x w) z ≡ w) × (z ≡ x)
weighed_row x w z = own (same_row z x) (same_row-equal z x) (at-one_row x w z)
  where
    own : (b : Bool) → (b ≡ true → z ≡ x) → at (one_row x w) z ≡ cond b w zero_ratio → at (one_row x w) z ≢ zero_ratio → (at (one_row x w) z ≡ w) × (z ≡ x)
    own true same e h = (e, same refl)
    own false same e h = absurd (h e)

pub entries-one_row : (x : Row) (w : Ratio) → (one_row x w).entries ≡ (if is_zero w then [] else (x, w) ∷ [])
unfolding dataset_of set_at empty
entries-one_row x w = refl

pub entries-empty : empty.entries ≡ []
unfolding empty
entries-empty = refl

pub is_zero-one_ratio : is_zero one_ratio ≡ false
unfolding one_ratio
is_zero-one_ratio = refl

-- one key with factor 1
pub entries-one_key : (x : Row) → (one_row x one_ratio).entries ≡ (x, one_ratio) ∷ []
entries-one_key x = entries-one_row x one_ratio ∙ ap (λ b. cond b [] ((x, one_ratio) ∷ [])) is_zero-one_ratio

-- a row of a part belongs to its key
pub factor-in_part : (keys : Row → Dataset) (k : Row) (A : Dataset) (z : Row) → at (part_of keys k A) z ≢ zero_ratio → at (keys z) k ≢ zero_ratio
factor-in_part keys k A z weighed none = weighed (at-part_of keys k A z ∙ ap (ratio_mul (at A z)) none ∙ ratio_mul_zero (at A z))
