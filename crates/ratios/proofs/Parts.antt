-- The parts of a ratio, and the quotient that it is.
use Rattle.std.specs.Prelude.{ℕ, zero, suc, ◌<◌, ◌≡◌, ◌≢◌, ℤ, pos, negsuc, ◌*ℤ◌, neg_ℤ, ◌≤ℤ◌, ◌<ℤ◌, unsigned_abs, refl}
use Rattle.std.proofs.Common.{sym, ap, ap₂, subst, ◌∙◌, arith}
use Rattle.std.proofs.lemmas.Int.{ints}
use Rattle.std.proofs.Math.IntN.{*ℤ_comm}
use Rattle.ratios.specs.Ratio.{Ratio, IsReduced, ratio, zero_ratio, one_ratio}
use Rattle.ratios.specs.Code.{ratio-itself}
use Rattle.ratios.proofs.Over.{IsOver, neg-mul, over_moved, over_ratio}

pub ratio-num-reduced : (n : ℤ) (d : ℕ) → IsReduced n d → (ratio n (pos d)).num ≡ n
ratio-num-reduced n d h = let q : Ratio = record { num = n; den = d; positive = h.0; coprime = h.1 } in ap (λ (r : Ratio). r.num) (ratio-itself q)

pub ratio-den-reduced : (n : ℤ) (d : ℕ) → IsReduced n d → (ratio n (pos d)).den ≡ d
ratio-den-reduced n d h = let q : Ratio = record { num = n; den = d; positive = h.0; coprime = h.1 } in ap (λ (r : Ratio). r.den) (ratio-itself q)

-- a reduced pair whose ratio is q has the parts of q
pub parts_of : (n : ℤ) (d : ℕ) (q : Ratio) → IsReduced n d → ratio n (pos d) ≡ q → (n ≡ q.num) × (d ≡ q.den)
parts_of n d q h e =
    (sym (ratio-num-reduced n d h) ∙ ap (λ (r : Ratio). r.num) e, sym (ratio-den-reduced n d h) ∙ ap (λ (r : Ratio). r.den) e)

-- the ratio of the parts of q, written otherwise
pub ratio_as : (q : Ratio) (n : ℤ) (d : ℕ) → n ≡ q.num → d ≡ q.den → ratio n (pos d) ≡ q
ratio_as q n d e f = ap₂ (λ n d. ratio n (pos d)) e f ∙ ratio-itself q

pub ratio-zero : ratio (pos 0) (pos 1) ≡ zero_ratio
unfolding zero_ratio
ratio-zero = ratio-itself zero_ratio

pub ratio-one : ratio (pos 1) (pos 1) ≡ one_ratio
unfolding one_ratio
ratio-one = ratio-itself one_ratio

-- ---- the sign of the denominator
not_below : (d : ℤ) → d <ℤ pos 0 → ¬ (pos 0 ≤ℤ d)
not_below d h k = omega (arith, ints)

pub ratio-negative : (n d : ℤ) (m : ℕ) → m ≡ unsigned_abs d → d <ℤ pos 0 → ratio (neg_ℤ n) (pos m) ≡ ratio n d
unfolding ratio
ratio-negative n (pos k) m e h = absurd (not_below (pos k) h (omega (arith, ints)))
ratio-negative n (negsuc k) m e h = rw e refl

-- ---- `ratio z w` is z / w
neg_neg : (z : ℤ) → neg_ℤ (neg_ℤ z) ≡ z
neg_neg z = omega (arith, ints)

mul-negsuc : (m : ℤ) (k : ℕ) → m *ℤ negsuc k ≡ neg_ℤ (m *ℤ pos (suc k))
mul-negsuc m k = *ℤ_comm m (negsuc k) ∙ neg-mul (pos (suc k)) m ∙ ap neg_ℤ (*ℤ_comm (pos (suc k)) m)

pub ratio_is_quotient : (z w : ℤ) → w ≢ pos 0 → (ratio z w).num *ℤ w ≡ z *ℤ pos (ratio z w).den
unfolding ratio
ratio_is_quotient z (pos zero) h = absurd (h refl)
ratio_is_quotient z (pos (suc k)) h = (over_ratio z (suc k) (omega arith)).cross
ratio_is_quotient z (negsuc k) h =
    let q = ratio (neg_ℤ z) (pos (suc k)) in
    mul-negsuc q.num k ∙ ap neg_ℤ ((over_ratio (neg_ℤ z) (suc k) (omega arith)).cross ∙ neg-mul z (pos q.den)) ∙ neg_neg (z *ℤ pos q.den)

-- 0 is 0 / d
pub over_zero : (d : ℕ) → 0 < d → IsOver (pos 0) d zero_ratio
over_zero d h =
    let one : 0 < 1 = omega arith in
    let o = subst (IsOver (pos 0) 1) ratio-zero (over_ratio (pos 0) 1 one) in
    over_moved (pos 0) (pos 0) 1 d zero_ratio o h (omega (arith, ints))
