-- Whether all weights of a dataset are in range.
use Rattle.std.specs.Prelude.{◌≡◌, Bool, true, false, refl}
use Rattle.std.proofs.Common.{sym, subst, ◌∙◌}
use Rattle.std.proofs.lemmas.List.Folds.{list_all-map}
use Rattle.ratios.specs.Range.{InRange, in_range}
use Rattle.ratios.specs.Ratio.{zero_ratio}
use Rattle.datasets.specs.Dataset.{Dataset, at, rows}
use Rattle.datasets.specs.Entries.{has_row}
use Rattle.datasets.proofs.Weights.{at-absent}
use Rattle.datasets.proofs.Members.{at-member}
use Rattle.operators.specs.InRange.{weights_in_range}
use Rattle.weighted_set.specs.Held.{AllInRange}
use Rattle.weighted_set.proofs.Sets.{InRange-zero}
use Rattle.op_parts.proofs.Members.{AllByRecursion-from_list_all, list_all-everywhere}

-- the test passes where all weights are in range
pub weights_in_range-all : (A : Dataset) → AllInRange A → weights_in_range A ≡ true
weights_in_range-all A h = list_all-map in_range (at A) (rows A) ∙ list_all-everywhere (λ x. in_range (at A x)) (rows A) h

-- all weights are in range where the test passes
pub AllInRange-tested : (A : Dataset) → weights_in_range A ≡ true → AllInRange A
AllInRange-tested A h x = here (has_row (rows A) x) (at-absent A x) found
  where
    found : has_row (rows A) x ≡ true → InRange (at A x)
    found = at-member (λ x. InRange (at A x)) (rows A) x (AllByRecursion-from_list_all (λ x. in_range (at A x)) (rows A) (sym (list_all-map in_range (at A) (rows A)) ∙ h))

    here : (b : Bool) → (b ≡ false → at A x ≡ zero_ratio) → (b ≡ true → InRange (at A x)) → InRange (at A x)
    here true absent there = there refl
    here false absent there = subst InRange (sym (absent refl)) InRange-zero
