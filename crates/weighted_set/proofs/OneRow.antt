-- The dataset of one row alone.
use Rattle.std.specs.Prelude.{◌≡◌, true, false, cond, [], ◌∷◌, refl}
use Rattle.std.proofs.Common.{sym, ap, ◌∙◌}
use Rattle.ratios.specs.Ratio.{Ratio, zero_ratio}
use Rattle.datasets.specs.Dataset.{Dataset, at, empty, set_at}
use Rattle.datasets.specs.Entries.{Row, is_zero, same_row}
use Rattle.datasets.specs.Kept.{is_zero-zero_ratio}
use Rattle.datasets.proofs.Counts.{set_at-same}
use Rattle.datasets.proofs.Equality.{same_weights}
use Rattle.datasets.proofs.Rows.{same_row-itself, zero_if_is_zero}
use Rattle.datasets.proofs.Weights.{at-empty, at-set_at}
use Rattle.weighted_set.proofs.TouchedRows.{cond-again}

-- of two weights that are set at a row, the last one stays
pub set_at-again : (x : Row) (v w : Ratio) (A : Dataset) → set_at x w (set_at x v A) ≡ set_at x w A
set_at-again x v w A =
    same_weights (set_at x w (set_at x v A)) (set_at x w A) (λ y.
    at-set_at x w (set_at x v A) y ∙ ap (cond (same_row y x) w) (at-set_at x v A y) ∙ cond-again (same_row y x) w v (at A y) ∙ sym (at-set_at x w A y))

pub at-one_row : (x y : Row) (w : Ratio) → at (set_at x w empty) y ≡ cond (same_row y x) w zero_ratio
at-one_row x y w = at-set_at x w empty y ∙ ap (cond (same_row y x) w) (at-empty y)

entries_are : (x : Row) (w : Ratio) → (set_at x w empty).entries ≡ cond (is_zero w) [] ((x, w) ∷ [])
unfolding set_at empty
entries_are x w = refl

pub entries-no_row : (x : Row) (w : Ratio) → is_zero w ≡ true → (set_at x w empty).entries ≡ []
entries-no_row x w zero = entries_are x w ∙ ap (λ b. cond b [] ((x, w) ∷ [])) zero

pub entries-one_row : (x : Row) (w : Ratio) → is_zero w ≡ false → (set_at x w empty).entries ≡ (x, w) ∷ []
entries-one_row x w other = entries_are x w ∙ ap (λ b. cond b [] ((x, w) ∷ [])) other

-- it is empty just where the row weighs nothing
pub one_row-zero : (x : Row) (w : Ratio) → is_zero w ≡ true → set_at x w empty ≡ empty
one_row-zero x w z = ap (λ v. set_at x v empty) (zero_if_is_zero w z ∙ sym (at-empty x)) ∙ set_at-same x empty

pub zero-one_row : (x : Row) (w : Ratio) → set_at x w empty ≡ empty → is_zero w ≡ true
zero-one_row x w none =
    let weight = sym (at-one_row x x w ∙ ap (λ b. cond b w zero_ratio) (same_row-itself x)) in
    ap is_zero (weight ∙ ap (λ A. at A x) none ∙ at-empty x) ∙ is_zero-zero_ratio
