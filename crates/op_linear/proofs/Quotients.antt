-- Quotients of whole numbers that are not negative.
use Rattle.std.specs.Prelude.{◌≡◌, ◌≢◌, ◌/◌, ◌<◌, ◌≤◌, ◌^◌, ℕ, zero, suc, pos, unsigned_abs, Ok}
use Rattle.std.specs.Option.{ok_or}
use Rattle.std.proofs.Common.{ap, subst, ◌∙◌, arith}
use Rattle.std.proofs.lemmas.Int.{ints}
use Rattle.ratios.specs.Code.{ratio-den, ratio-num}
use Rattle.ratios.specs.Gcd.{gcd}
use Rattle.ratios.specs.Range.{InRange}
use Rattle.ratios.specs.Ratio.{ratio, zero_ratio}
use Rattle.ratios.specs.Reduced.{unsigned_abs-int_div}
use Rattle.ratios.proofs.Over.{IsOver, over_ratio, same_numerator}
use Rattle.ratios.proofs.Range.{InRange-from_bounds, checked-in}
use Rattle.ratios.proofs.Parts.{over_zero}
use Rattle.frac_core.specs.Quotient.{quotient_of}
use Rattle.frac_core.specs.declared.FracFault.TheVariants as fault

div-le : (m g : ℕ) → m / g ≤ m
div-le m zero = omega arith
div-le m (suc g) = omega arith

InRange-quotient : (n d : ℕ) → 0 < d → n < 2 ^ 62 → d < 2 ^ 62 → InRange (ratio (pos n) (pos d))
InRange-quotient n d p small_n small_d =
    let num = ap unsigned_abs (ratio-num (pos n) d p) ∙ unsigned_abs-int_div (pos n) (gcd n d) in
    let den = ratio-den (pos n) d p in
    let a = div-le n (gcd n d) in
    let b = div-le d (gcd n d) in
    InRange-from_bounds (ratio (pos n) (pos d)) (omega arith) (omega arith)

-- a quotient in range is answered
pub quotient-answered : (n d : ℕ) → 0 < d → n < 2 ^ 62 → d < 2 ^ 62 → quotient_of (pos n) (pos d) ≡ Ok (ratio (pos n) (pos d))
quotient-answered n zero p small_n small_d = absurd (omega arith)
quotient-answered n (suc d) p small_n small_d = ap (λ o. ok_or o fault.OutOfRange) (checked-in (ratio (pos n) (pos (suc d))) (InRange-quotient n (suc d) p small_n small_d))

pub ratio-above_zero : (n d : ℕ) → 0 < n → 0 < d → ratio (pos n) (pos d) ≢ zero_ratio
ratio-above_zero n d some p e =
    let over : IsOver (pos n) d zero_ratio = subst (IsOver (pos n) d) e (over_ratio (pos n) d p) in
    let none : pos n ≡ pos 0 = same_numerator (pos n) (pos 0) d zero_ratio over (over_zero d p) in
    omega (arith, ints)
