-- Quotients and norms that are not 0.
use Rattle.std.specs.Prelude.{◌≡◌, ◌≢◌, ◌*◌, ◌<◌, ℕ, zero, suc, ◌*ℤ◌, pos, unsigned_abs}
use Rattle.std.proofs.Common.{arith, ap, mul-pos, subst, sym, ◌∙◌}
use Rattle.std.proofs.lemmas.Int.{ints, unsigned_abs-mul}
use Rattle.ratios.specs.Ratio.{Ratio, ratio_add, ratio_div, zero_ratio}
use Rattle.ratios.proofs.Crossing.{num_not_zero}
use Rattle.ratios.proofs.Field.{add_nonneg, le_add, le_antisym, le_then}
use Rattle.ratios.proofs.Linear.{◌⊑◌}
use Rattle.ratios.proofs.Over.{IsOver, over_itself, over_scaled, same_numerator, same_over}
use Rattle.ratios.proofs.Parts.{over_zero}
use Rattle.ratios.proofs.Quotients.{div, natural}
use Rattle.datasets.specs.Dataset.{Dataset, empty, norm}
use Rattle.datasets.proofs.Distances.{dist-empty, norm-nonneg, same_from_no_dist}

-- a quotient by what is above 0 is 0 only where the dividend is
pub quotient_other : (q r : Ratio) → q ≢ zero_ratio → r ≢ zero_ratio → zero_ratio ⊑ r → ratio_div q r ≢ zero_ratio
quotient_other q r h k nonneg e =
    let s = natural nonneg (over_itself r) in
    let some : 0 < s.n = above s.n s.over in
    let denominators : r.den * q.den ≡ q.den * r.den = omega arith in
    let first = over_scaled q.num q.den r.den q r.positive (over_itself q) in
    let second : IsOver (pos (s.n * q.den)) (q.den * r.den) r = subst (λ d. IsOver (pos (s.n * q.den)) d r) denominators (over_scaled (pos s.n) r.den q.den r q.positive s.over) in
    let over : IsOver (q.num *ℤ pos r.den) (s.n * q.den) zero_ratio = subst (IsOver (q.num *ℤ pos r.den) (s.n * q.den)) e (div (mul-pos some q.positive) first second) in
    let none : q.num *ℤ pos r.den ≡ pos 0 = same_numerator (q.num *ℤ pos r.den) (pos 0) (s.n * q.den) zero_ratio over (over_zero (s.n * q.den) (mul-pos some q.positive)) in
    let product : unsigned_abs q.num * r.den ≡ 0 = sym (unsigned_abs-mul q.num (pos r.den)) ∙ ap unsigned_abs none in
    let n = num_not_zero q h in
    let numerator : 0 < unsigned_abs q.num = omega (arith, ints) in
    let both = mul-pos numerator r.positive in
    omega arith
  where
    above : (n : ℕ) → IsOver (pos n) r.den r → 0 < n
    above zero over = absurd (k (same_over (pos 0) r.den r zero_ratio over (over_zero r.den r.positive)))
    above (suc n) over = omega arith

-- ---- norms

pub norms_nonneg : (A B : Dataset) → zero_ratio ⊑ ratio_add (norm A) (norm B)
norms_nonneg A B = add_nonneg (norm-nonneg A) (norm-nonneg B)

-- where a dataset has rows, its norm and another one together are above 0
pub norms_other : (A B : Dataset) → A ≢ empty → ratio_add (norm A) (norm B) ≢ zero_ratio
norms_other A B some none =
    let norm_none : norm A ≡ zero_ratio = le_antisym (le_then (le_add (norm A) (norm-nonneg B)) none) (norm-nonneg A) in
    some (same_from_no_dist A empty (dist-empty A ∙ norm_none))
