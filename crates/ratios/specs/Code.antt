-- A ratio is told by its two parts, and stored as the pair of them.
use Rattle.std.specs.Prelude.{ℕ, zero, suc, ◌/◌, ◌<◌, ◌≡◌, ℤ, pos, unsigned_abs, int_div, refl}
use Rattle.std.specs.Int.{IsGcd}
use Rattle.std.specs.Coded.{Coded, code_by, coded×, coded_ℕ, coded_ℤ}
use Rattle.std.proofs.Common.{ap, ap₂, subst, ◌∙◌, arith}
use Rattle.std.proofs.lemmas.Int.{ints}
use Rattle.std.proofs.lemmas.Nat.Gcd.{same_from_IsGcd}
use Rattle.std.proofs.Math.Nat.{∣_prop}
use native.Mathlib.Bridge.{le_prop}
use Rattle.ratios.specs.Gcd.{gcd, IsGcd-gcd}
use Rattle.ratios.specs.Ratio.{Ratio, ratio, reduced}

-- ---- two ratios with the same parts are the same
IsGcd-prop : (a b g : ℕ) (p q : IsGcd a b g) → p ≡ q
IsGcd-prop a b g = hlevel ∣_prop

ratio_of_parts : (n : ℤ) (d : ℕ) → 0 < d → IsGcd (unsigned_abs n) d 1 → Ratio
ratio_of_parts n d p c = record { num = n; den = d; positive = p; coprime = c }

same_of_parts : (n m : ℤ) (a b : ℕ) (p : 0 < a) (s : 0 < b) (c : IsGcd (unsigned_abs n) a 1) (t : IsGcd (unsigned_abs m) b 1) →
    n ≡ m → a ≡ b → ratio_of_parts n a p c ≡ ratio_of_parts m b s t
same_of_parts n m a b p s c t e f =
    let at_den : (s : 0 < b) (t : IsGcd (unsigned_abs n) b 1) → ratio_of_parts n a p c ≡ ratio_of_parts n b s t =
    subst (λ (y : ℕ). (s : 0 < y) (t : IsGcd (unsigned_abs n) y 1) → ratio_of_parts n a p c ≡ ratio_of_parts n y s t) f
    (λ s t. ap₂ (ratio_of_parts n a) (le_prop p s) (IsGcd-prop (unsigned_abs n) a 1 c t)) in
    subst (λ (x : ℤ). (t : IsGcd (unsigned_abs x) b 1) → ratio_of_parts n a p c ≡ ratio_of_parts x b s t) e (at_den s) t

pub same_parts : (q r : Ratio) → q.num ≡ r.num → q.den ≡ r.den → q ≡ r
unfolding ratio_of_parts
same_parts q r e f = same_of_parts q.num r.num q.den r.den q.positive r.positive q.coprime r.coprime e f

-- ---- the parts of n / d
pub ratio-num : (n : ℤ) (d : ℕ) → 0 < d → (ratio n (pos d)).num ≡ int_div n (pos (gcd (unsigned_abs n) d))
unfolding ratio reduced
ratio-num n zero h = absurd (omega arith)
ratio-num n (suc k) h = refl

pub ratio-den : (n : ℤ) (d : ℕ) → 0 < d → (ratio n (pos d)).den ≡ d / gcd (unsigned_abs n) d
unfolding ratio reduced
ratio-den n zero h = absurd (omega arith)
ratio-den n (suc k) h = refl

-- ---- a ratio is the quotient of its parts
int_div-one : (n : ℤ) → int_div n (pos 1) ≡ n
int_div-one n = omega (arith, ints)

pub ratio-itself : (q : Ratio) → ratio q.num (pos q.den) ≡ q
ratio-itself q =
    let g : gcd (unsigned_abs q.num) q.den ≡ 1 = same_from_IsGcd (unsigned_abs q.num) q.den (gcd (unsigned_abs q.num) q.den) 1 (IsGcd-gcd (unsigned_abs q.num) q.den) q.coprime in
    let d : q.den / 1 ≡ q.den = omega arith in
    same_parts (ratio q.num (pos q.den)) q
    (ratio-num q.num q.den q.positive ∙ ap (λ t. int_div q.num (pos t)) g ∙ int_div-one q.num)
    (ratio-den q.num q.den q.positive ∙ ap (λ t. q.den / t) g ∙ d)

-- a ratio is stored as the pair of its numerator and its denominator
abbrev pub ratio_code : Coded Ratio
ratio_code = code_by (ℤ × ℕ) (coded× coded_ℤ coded_ℕ) (λ q. (q.num, q.den)) (λ p. ratio p.0 (pos p.1)) ratio-itself
