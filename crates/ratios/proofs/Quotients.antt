-- Quotients over one denominator, and natural numbers over it.
use Rattle.std.specs.Prelude.{ℕ, zero, suc, ◌*◌, ◌+◌, ◌<◌, ◌≤◌, ◌≡◌, ℤ, pos, negsuc, ◌*ℤ◌, ◌≤ℤ◌, refl}
use Rattle.std.proofs.Common.{arith, ap, subst, sym, mul-pos, ◌∙◌}
use Rattle.std.proofs.lemmas.Int.{ints}
use Rattle.std.proofs.Math.Nat.{eq_of_mul-eq-mul_right}
use borrow.Author.Differences.{up, down}
use Rattle.ratios.specs.Ratio.{Ratio, one_ratio, ratio, ratio_div, zero_ratio}
use Rattle.ratios.proofs.Field.{le_refl}
use Rattle.ratios.proofs.Linear.{◌⊑◌, le_of, nil, whole_le}
use Rattle.ratios.proofs.Over.{IsOver, cross_parts, over_itself, over_moved, over_ratio, parts_cross, scaled_down, scaled_up}

-- ---- natural numbers over a denominator: their products stay natural numbers, which omega multiplies out

-- q is n / d
pub record IsNatural (d : ℕ) (q : Ratio) : Type 0 where
  pub n : ℕ
  pub over : IsOver (pos n) d q

pub natural : {z : ℤ} {d : ℕ} {q : Ratio} → zero_ratio ⊑ q → IsOver z d q → IsNatural d q
natural {z = pos n} h o = record { n = n; over = o }
natural {z = negsuc n} h o = absurd (let e = whole_le (nil o) o h in omega (arith, ints, e))

-- ---- over a denominator, the quotient of z and y is z / y

divisor_is : (m : ℤ) (y d e : ℕ) → 0 < y → 0 < e → m *ℤ pos d ≡ pos (y * e) → (k : ℕ) × (m ≡ pos k) × (0 < k) × (k * d ≡ y * e)
divisor_is (pos zero) y d e h g c = absurd (let p = mul-pos h g in omega (arith, ints, c))
divisor_is (pos (suc k)) y d e h g c = (suc k, refl, omega arith, omega (arith, ints, c))
divisor_is (negsuc k) y d e h g c = absurd (let p = mul-pos h g in omega (arith, ints, c))

div_moved : (n z : ℤ) (k y d a b : ℕ) → 0 < d → n *ℤ pos d ≡ z *ℤ pos a → k * d ≡ y * b → (n *ℤ pos b) *ℤ pos y ≡ z *ℤ pos (k * a)
div_moved n z k y d a b some h g =
    let p = ap (λ t. t * (b * y)) (cross_parts n z d a h) in
    let u = ap (λ t. up z * a * t) g in
    let v = ap (λ t. down z * a * t) g in
    let e : up (n *ℤ pos b) ≡ up n * b = scaled_up n b in
    let f : down (n *ℤ pos b) ≡ down n * b = scaled_down n b in
    let t : (up n * b * y + down z * (k * a)) * d ≡ (up z * (k * a) + down n * b * y) * d = omega (arith, p, u, v) in
    let w = eq_of_mul-eq-mul_right d some _ _ t in
    parts_cross (n *ℤ pos b) z y (k * a) (omega (arith, w, ap (λ t. t * y) e, ap (λ t. t * y) f))

pub over_div : (z : ℤ) (y d : ℕ) (q r : Ratio) → 0 < y → IsOver z d q → IsOver (pos y) d r → IsOver z y (ratio_div q r)
over_div z y d q r p h k =
    let t = divisor_is r.num y d r.den p r.positive k.cross in
    let e : r.num *ℤ pos q.den ≡ pos (t.0 * q.den) = ap (λ n. n *ℤ pos q.den) t.1 in
    let o = over_ratio (q.num *ℤ pos r.den) (t.0 * q.den) (mul-pos t.2 q.positive) in
    let m = over_moved (q.num *ℤ pos r.den) z (t.0 * q.den) y (ratio (q.num *ℤ pos r.den) (pos (t.0 * q.den))) o p (div_moved q.num z t.0 y d q.den r.den h.some h.cross t.3) in
    subst (λ n. IsOver z y (ratio (q.num *ℤ pos r.den) n)) (sym e) m

pub div : {z : ℤ} {n d : ℕ} {q r : Ratio} → 0 < n → IsOver z d q → IsOver (pos n) d r → IsOver z n (ratio_div q r)
div some h k = over_div _ _ _ _ _ some h k

-- ---- a quotient by 0 is 0

zero_ratio_num : zero_ratio.num ≡ pos 0
unfolding zero_ratio
zero_ratio_num = refl

none : (z : ℤ) (d : ℕ) → ratio z (pos 0 *ℤ pos d) ≡ zero_ratio
unfolding ratio
none z d = let e : pos 0 *ℤ pos d ≡ pos 0 = omega (arith, ints) in ap (ratio z) e

pub div_by_zero : (q : Ratio) → ratio_div q zero_ratio ≡ zero_ratio
div_by_zero q = by_zero q zero_ratio zero_ratio_num
  where
    by_zero : (q r : Ratio) → r.num ≡ pos 0 → ratio_div q r ≡ zero_ratio
    by_zero q r e = ap (λ n. ratio (q.num *ℤ pos r.den) (n *ℤ pos q.den)) e ∙ none (q.num *ℤ pos r.den) q.den

-- ---- what is at most 1

over_one : (d : ℕ) → 0 < d → IsOver (pos d) d one_ratio
unfolding one_ratio
over_one d h = record { some = h; cross = omega (arith, ints) }

pub ratio_le_one : (m d : ℕ) → 0 < d → m ≤ d → ratio (pos m) (pos d) ⊑ one_ratio
ratio_le_one m d h k = le_of (over_ratio (pos m) d h) (over_one d h) (omega (arith, ints))

-- ---- what is not below 0

pub ratio_nonneg : (n d : ℕ) → zero_ratio ⊑ ratio (pos n) (pos d)
unfolding ratio
ratio_nonneg n zero = le_refl zero_ratio
ratio_nonneg n (suc d) =
    let some : 0 < suc d = omega arith in
    let o = over_ratio (pos n) (suc d) some in
    le_of (nil o) o (omega (arith, ints))

quotient_nonneg : (a m : ℤ) (e : ℕ) → pos 0 ≤ℤ a → pos 0 ≤ℤ m → zero_ratio ⊑ ratio a (m *ℤ pos e)
quotient_nonneg (pos n) (pos k) e h g = ratio_nonneg n (k * e)
quotient_nonneg (pos n) (negsuc k) e h g = absurd (omega (arith, ints, g))
quotient_nonneg (negsuc n) m e h g = absurd (omega (arith, ints, h))

whole_scaled : (a : ℤ) (d : ℕ) → pos 0 ≤ℤ a → pos 0 ≤ℤ (a *ℤ pos d)
whole_scaled (pos n) d h = omega (arith, ints)
whole_scaled (negsuc n) d h = absurd (omega (arith, ints, h))

pub div_nonneg : {q r : Ratio} → zero_ratio ⊑ q → zero_ratio ⊑ r → zero_ratio ⊑ ratio_div q r
div_nonneg {q} {r} h k =
    let a = whole_le (nil (over_itself q)) (over_itself q) h in
    let b = whole_le (nil (over_itself r)) (over_itself r) k in
    quotient_nonneg (q.num *ℤ pos r.den) r.num q.den (whole_scaled q.num r.den a) b
