-- What `reduce` and the operations above it rest on.
use Rattle.std.proofs.Common.{ℕ, zero, suc, ◌/◌, ◌≤◌, ◌<◌, ◌≡◌, ◌≢◌, ◌^◌, ℤ, pos, negsuc, ◌*ℤ◌, neg_ℤ, ◌<ℤ◌, unsigned_abs, int_div, refl, sym, ap, ap₂, subst, subst₂, ◌∙◌, arith, SFits, to_z, of_z, w64}
use Rattle.std.specs.Int.{IsGcd}
use Rattle.std.specs.Option.{ok_or}
use Rattle.std.proofs.lemmas.Int.{ints, unsigned_abs-mul, quot_fits, to_z-of_z}
use mir.Syntax.{Width, w128}
use Rattle.std.proofs.lemmas.Nat.{mul-lt}
use Rattle.std.proofs.lemmas.Nat.Gcd.{le_of_dvd, IsGcd-swap}
use Rattle.std.proofs.Math.Nat.{pos_of_dvd_of_pos}
use Rattle.ratios.specs.Gcd.{gcd, IsGcd-gcd}
use Rattle.ratios.specs.Ratio.{Ratio, ratio, IsReduced, zero_ratio}
use Rattle.ratios.specs.Code.{ratio-num, ratio-den}
use Rattle.ratios.specs.Range.{InRange, checked}
use Rattle.ratios.proofs.Parts.{ratio-den-reduced, ratio-num-reduced}
use Rattle.ratios.proofs.Range.{bounds_of_InRange}
use Rattle.ratios.proofs.Crossing.{num_not_zero}
use Rattle.frac_core.specs.Quotient.{quotient_of}
use Rattle.frac_core.specs.declared.FracFault.TheVariants.{OutOfRange}

pub gcd_bounds : (m d g : ℕ) → 0 < d → g ≡ gcd m d → (0 < g) × (g ≤ d)
gcd_bounds m d g h e =
    let f = IsGcd-gcd m d in
    let low : 0 < gcd m d = pos_of_dvd_of_pos f.1 h in
    let high : gcd m d ≤ d = le_of_dvd h f.1 in
    omega (arith, e)

-- q has the parts n and d, both divided by g
pub record IsDividedBy (n : ℤ) (d g : ℕ) (q : Ratio) : Type 0 where
  pub num_is : q.num ≡ int_div n (pos g)
  pub den_is : q.den ≡ d / g

pub ratio_divided : (n : ℤ) (m d g : ℕ) → 0 < d → m ≡ unsigned_abs n → g ≡ gcd m d → IsDividedBy n d g (ratio n (pos d))
ratio_divided n m d g h e f =
    let k : gcd (unsigned_abs n) d ≡ g = ap (λ t. gcd t d) (sym e) ∙ sym f in
    record { num_is = ratio-num n d h ∙ ap (λ t. int_div n (pos t)) k; den_is = ratio-den n d h ∙ ap (λ t. d / t) k }

-- with no common divisor but 1 they are reduced
pub reduced_at_one : (n : ℤ) (m d g : ℕ) → 0 < d → m ≡ unsigned_abs n → g ≡ gcd m d → g ≡ 1 → IsReduced n d
reduced_at_one n m d g h e f k = (h, subst₂ (λ m g. IsGcd m d g) e (sym f ∙ k) (IsGcd-gcd m d))

-- a part past the limit is out of range
pub num_out : (q : Ratio) (n : ℤ) → q.num ≡ n → 2 ^ 62 ≤ unsigned_abs n → ¬ (InRange q)
num_out q n e h r = let b = bounds_of_InRange q r in let f = ap unsigned_abs e in absurd (omega arith)

pub den_out : (q : Ratio) (d : ℕ) → q.den ≡ d → 2 ^ 62 ≤ d → ¬ (InRange q)
den_out q d e h r = let b = bounds_of_InRange q r in absurd (omega arith)

-- a reduced numerator that takes more than 128 bits is out of range
pub num_too_wide : (z : ℤ) (d : ℕ) → IsReduced z d → ¬ (SFits w128 z) → ¬ (InRange (ratio z (pos d)))
num_too_wide z d h wide r =
    let b = (bounds_of_InRange (ratio z (pos d)) r).0 in
    let e = ap unsigned_abs (ratio-num-reduced z d h) in
    let small : unsigned_abs z < 2 ^ 62 = omega (arith, b, e) in
    wide (omega (arith, ints, small))

-- so is a reduced denominator
pub den_too_wide : (z : ℤ) (d : ℕ) → IsReduced z d → ¬ (d < 2 ^ 128) → ¬ (InRange (ratio z (pos d)))
den_too_wide z d h wide r =
    let b = (bounds_of_InRange (ratio z (pos d)) r).1 in
    let e = ratio-den-reduced z d h in
    wide (omega (arith, b, e))

-- ---- products that fit
pub quotient_fits : (w : Width) (n : ℤ) (g : ℕ) → SFits w n → SFits w (pos g) → 0 < g → SFits w (int_div (to_z w (of_z w n)) (to_z w g))
quotient_fits w n g f d h =
    let p : pos 0 <ℤ pos g = omega (arith, ints) in
    subst₂ (λ a b. SFits w (int_div a b)) (sym (to_z-of_z w n f)) (sym (to_z-of_z w (pos g) d)) (quot_fits w n (pos g) f p)

-- a reduced pair, written otherwise
pub reduced_as : (m n : ℤ) (d e : ℕ) → m ≡ n → d ≡ e → IsReduced n e → IsReduced m d
reduced_as m n d e p q h = let P : ℤ → ℕ → Type 0 = λ n d. IsReduced n d in subst₂ P (sym p) (sym q) h

-- a small number survives two casts
pub cast_is : (z : ℤ) → unsigned_abs z < 2 ^ 62 → to_z w64 (of_z w64 (to_z w128 (of_z w128 z))) ≡ z
cast_is z h =
    let a : SFits w128 z = omega (arith, ints) in
    let b : SFits w64 z = omega (arith, ints) in
    rw (to_z-of_z w128 z a) (to_z-of_z w64 z b)

-- a product of small numbers is exact
product_small : (m n : ℤ) → unsigned_abs m < 2 ^ 62 → unsigned_abs n < 2 ^ 62 → unsigned_abs (m *ℤ n) < 2 ^ 124
product_small m n h k = rw unsigned_abs-mul (mul-lt (unsigned_abs m) (unsigned_abs n) (2 ^ 62) (2 ^ 62) h k)

wide_is : (z : ℤ) → unsigned_abs z < 2 ^ 124 → to_z w128 (of_z w128 z) ≡ z
wide_is z h = omega (arith, ints)

pub product_exact : (x y m n : ℤ) → x ≡ m → y ≡ n → unsigned_abs m < 2 ^ 62 → unsigned_abs n < 2 ^ 62 →
    to_z w128 (of_z w128 (to_z w128 (of_z w128 x) *ℤ to_z w128 (of_z w128 y))) ≡ m *ℤ n
product_exact x y m n e f h k =
    let a : to_z w128 (of_z w128 x) ≡ m = rw e (wide_is m (omega arith)) in
    let b : to_z w128 (of_z w128 y) ≡ n = rw f (wide_is n (omega arith)) in
    rw (a, b) (wide_is (m *ℤ n) (product_small m n h k))

pub product_exact_small : (x y m n : ℤ) → x ≡ m → y ≡ n → unsigned_abs m < 2 ^ 62 → unsigned_abs n < 2 ^ 62 →
    unsigned_abs (to_z w128 (of_z w128 (to_z w128 (of_z w128 x) *ℤ to_z w128 (of_z w128 y)))) < 2 ^ 124
product_exact_small x y m n e f h k = rw (product_exact x y m n e f h k) (product_small m n h k)

-- ---- numbers written otherwise
pub checked_as : (n m : ℤ) (d e : ℕ) → n ≡ m → d ≡ e → checked (ratio n (pos d)) ≡ checked (ratio m (pos e))
checked_as n m d e p q = ap₂ (λ n d. checked (ratio n (pos d))) p q

-- ---- the fraction of two numbers
pub quotient_of-nonzero : (z w : ℤ) → w ≢ pos 0 → quotient_of z w ≡ ok_or (checked (ratio z w)) OutOfRange
quotient_of-nonzero z (pos zero) h = absurd (h refl)
quotient_of-nonzero z (pos (suc k)) h = refl
quotient_of-nonzero z (negsuc k) h = refl

-- ---- the fields with the other sign
unsigned_abs-neg : (n : ℤ) → unsigned_abs (neg_ℤ n) ≡ unsigned_abs n
unsigned_abs-neg (pos zero) = refl
unsigned_abs-neg (pos (suc n)) = refl
unsigned_abs-neg (negsuc n) = refl

pub negated_fields : (n t : ℤ) (d : ℕ) → t ≡ neg_ℤ n → IsReduced n d × (unsigned_abs n < 2 ^ 62) × (d < 2 ^ 62) →
    IsReduced t d × (unsigned_abs t < 2 ^ 62) × (d < 2 ^ 62)
negated_fields n t d e h =
    let f : unsigned_abs n ≡ unsigned_abs t = sym (ap unsigned_abs e ∙ unsigned_abs-neg n) in
    subst (λ m. ((0 < d) × IsGcd m d 1) × (m < 2 ^ 62) × (d < 2 ^ 62)) f h

-- ---- the fields of 1 over q
positive_abs : (n : ℤ) → n ≢ pos 0 → 0 < unsigned_abs n
positive_abs (pos zero) h = absurd (h refl)
positive_abs (pos (suc n)) h = omega (arith, ints)
positive_abs (negsuc n) h = omega (arith, ints)

pub inverse_fields : (q : Ratio) (z : ℤ) (m : ℕ) → q ≢ zero_ratio → unsigned_abs z ≡ q.den → m ≡ unsigned_abs q.num → unsigned_abs q.num < 2 ^ 62 → q.den < 2 ^ 62 →
    IsReduced z m × (unsigned_abs z < 2 ^ 62) × (m < 2 ^ 62)
inverse_fields q z m h e f j k =
    let p = positive_abs q.num (num_not_zero q h) in
    ((omega arith, rw (e, f) (IsGcd-swap (unsigned_abs q.num) q.den 1 q.coprime)), omega arith, omega arith)
