-- The weights of a dataset that is given row by row.
use Rattle.std.specs.Prelude.{◌≡◌, Bool, true, false, cond, ◌&&◌, ◌||◌, filter, List, [], ◌∷◌, map, refl}
use Rattle.std.proofs.Common.{sym, ap, ap₂, ◌∙◌}
use Rattle.std.proofs.lemmas.Bool.{or_parts}
use Rattle.ratios.specs.Ratio.{Ratio, zero_ratio}
use Rattle.datasets.specs.Dataset.{Dataset, at, rows, rows_of_either}
use Rattle.datasets.specs.Entries.{Row, has_row, same_row, weight_in}
use Rattle.datasets.proofs.Rows.{same_row-equal}
use Rattle.datasets.proofs.RowLists.{has_row-filter, has_row-with_rows}
use Rattle.datasets.proofs.Weights.{at-absent, at-dataset_of, weight_in-cons}
use Rattle.operators.specs.Weights.{tabulated}
use Rattle.operators.specs.Operators.{filter_weight, filtered, pointwise, pointwise_weight}

weight_in-tabulated : (f : Row → Ratio) (xs : List Row) (z : Row) → weight_in (map (λ x. (x, f x)) xs) z ≡ cond (has_row xs z) (f z) zero_ratio
weight_in-tabulated f [] z = refl
weight_in-tabulated f (x ∷ xs) z =
    weight_in-cons z (x, f x) (map (λ x. (x, f x)) xs)
    ∙ ap (cond (same_row z x) (f x)) (weight_in-tabulated f xs z)
    ∙ first (same_row z x) (λ e. ap f (sym (same_row-equal z x e)))
  where
    first : (b : Bool) → (b ≡ true → f x ≡ f z) → cond b (f x) (cond (has_row xs z) (f z) zero_ratio) ≡ cond (b || has_row xs z) (f z) zero_ratio
    first true h = h refl
    first false h = refl

pub at-tabulated : (f : Row → Ratio) (xs : List Row) (z : Row) → at (tabulated f xs) z ≡ cond (has_row xs z) (f z) zero_ratio
at-tabulated f xs z = at-dataset_of (map (λ x. (x, f x)) xs) z ∙ weight_in-tabulated f xs z

-- where f is 0 at what is not in the list, it gives every weight
pub at-tabulated-everywhere : (f : Row → Ratio) (xs : List Row) → ((z : Row) → has_row xs z ≡ false → f z ≡ zero_ratio) → (z : Row) → at (tabulated f xs) z ≡ f z
at-tabulated-everywhere f xs h z = at-tabulated f xs z ∙ whole (has_row xs z) (h z)
  where
    whole : (b : Bool) → (b ≡ false → f z ≡ zero_ratio) → cond b (f z) zero_ratio ≡ f z
    whole true k = refl
    whole false k = sym (k refl)

pub at-filtered : (test : Row → Bool) (A : Dataset) (z : Row) → at (filtered test A) z ≡ filter_weight test A z
at-filtered test A z =
    at-tabulated (at A) (filter test (rows A)) z
    ∙ ap (λ b. cond b (at A z) zero_ratio) (has_row-filter test (rows A) z)
    ∙ passing (test z) (has_row (rows A) z) (at-absent A z)
  where
    passing : (a b : Bool) → (b ≡ false → at A z ≡ zero_ratio) → cond (a && b) (at A z) zero_ratio ≡ cond a (at A z) zero_ratio
    passing true true h = refl
    passing true false h = sym (h refl)
    passing false b h = refl

-- an operation that makes 0 of 0 and 0 gives every weight
pub at-pointwise : (op : Ratio → Ratio → Ratio) → op zero_ratio zero_ratio ≡ zero_ratio → (A B : Dataset) (z : Row) → at (pointwise op A B) z ≡ pointwise_weight op A B z
at-pointwise op e A B =
    at-tabulated-everywhere (pointwise_weight op A B) (rows_of_either A B)
    (λ z h. let p = or_parts (has_row (rows A) z) (has_row (rows B) z) (sym (has_row-with_rows (rows A) (rows B) z) ∙ h) in ap₂ op (at-absent A z p.0) (at-absent B z p.1) ∙ e)
