-- Ratios: the rational numbers, as unbounded reduced pairs.
use Rattle.std.specs.Prelude.{ℕ, zero, suc, ◌*◌, ◌/◌, ◌^◌, ◌<◌, ◌≡◌, Bool, true, if◌then◌else◌, ℤ, pos, negsuc, ◌+ℤ◌, ◌-ℤ◌, ◌*ℤ◌, neg_ℤ, unsigned_abs, int_div}
use Rattle.std.specs.Int.{IsGcd, int_div_euclid}
use Rattle.std.specs.Ordering.{int_cmp, is_le, is_lt}
use Rattle.std.specs.declared.cmp.Ordering.{Ordering}
use Rattle.ratios.specs.Gcd.{gcd}
use Rattle.ratios.specs.Reduced.{quotient_positive, parts_coprime, one_coprime, one_positive}

-- the second part is positive, and the two have no common divisor but 1
abbrev pub IsReduced : ℤ → ℕ → Type 0
IsReduced n d = (0 < d) × IsGcd (unsigned_abs n) d 1

-- a rational number: the reduced pair of its numerator and its denominator
pub record Ratio : Type 0 where
  pub num : ℤ
  pub den : ℕ
  pub positive : 0 < den
  pub coprime : IsGcd (unsigned_abs num) den 1

-- ---- the ratio of two whole numbers

-- 0
unfoldable pub zero_ratio : Ratio
zero_ratio = record { num = pos 0; den = 1; positive = one_positive; coprime = one_coprime 0 }

-- 1
unfoldable pub one_ratio : Ratio
one_ratio = record { num = pos 1; den = 1; positive = one_positive; coprime = one_coprime 1 }

-- z / (k + 1): both divided by their greatest common divisor
unfoldable pub reduced : ℤ → ℕ → Ratio
reduced z k =
    let g = gcd (unsigned_abs z) (suc k) in
    record { num = int_div z (pos g); den = suc k / g; positive = quotient_positive (unsigned_abs z) k; coprime = parts_coprime z k }

-- z / w, and 0 where w is 0
unfoldable pub ratio : ℤ → ℤ → Ratio
ratio z (pos zero) = zero_ratio
ratio z (pos (suc k)) = reduced z k
ratio z (negsuc k) = reduced (neg_ℤ z) k

-- ---- the operations of the rational numbers

-- q + r
abbrev pub ratio_add : Ratio → Ratio → Ratio
ratio_add q r = ratio (q.num *ℤ pos r.den +ℤ r.num *ℤ pos q.den) (pos (q.den * r.den))

-- q - r
abbrev pub ratio_sub : Ratio → Ratio → Ratio
ratio_sub q r = ratio (q.num *ℤ pos r.den -ℤ r.num *ℤ pos q.den) (pos (q.den * r.den))

-- q * r
abbrev pub ratio_mul : Ratio → Ratio → Ratio
ratio_mul q r = ratio (q.num *ℤ r.num) (pos (q.den * r.den))

-- q / r, and 0 where r is 0
abbrev pub ratio_div : Ratio → Ratio → Ratio
ratio_div q r = ratio (q.num *ℤ pos r.den) (r.num *ℤ pos q.den)

-- q / 2
abbrev pub ratio_half : Ratio → Ratio
ratio_half q = ratio q.num (pos (2 * q.den))

-- - q
abbrev pub ratio_neg : Ratio → Ratio
ratio_neg q = ratio (neg_ℤ q.num) (pos q.den)

-- the absolute value of q
abbrev pub ratio_abs : Ratio → Ratio
ratio_abs q = ratio (pos (unsigned_abs q.num)) (pos q.den)

-- the greatest whole number that is at most q * 2 ^ 20
abbrev pub ratio_floor_units : Ratio → ℤ
ratio_floor_units q = int_div_euclid (q.num *ℤ pos (2 ^ 20)) (pos q.den)

-- ---- their order

-- how q and r compare, by their cross products
abbrev pub ratio_cmp : Ratio → Ratio → Ordering
ratio_cmp q r = int_cmp (q.num *ℤ pos r.den) (r.num *ℤ pos q.den)

-- q is at most r
abbrev pub is_at_most : Ratio → Ratio → Bool
is_at_most q r = is_le (ratio_cmp q r)

-- q is below r
abbrev pub is_below : Ratio → Ratio → Bool
is_below q r = is_lt (ratio_cmp q r)

-- that q is at most r
infix 50 ◌≼◌
abbrev pub ◌≼◌ : Ratio → Ratio → Type 0
q ≼ r = is_at_most q r ≡ true

-- the greater of two
abbrev pub ratio_max : Ratio → Ratio → Ratio
ratio_max q r = if is_at_most q r then r else q

-- the less of two
abbrev pub ratio_min : Ratio → Ratio → Ratio
ratio_min q r = if is_at_most q r then q else r
