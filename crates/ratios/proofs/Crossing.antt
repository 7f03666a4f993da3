-- Products in lowest terms, and quotients as products.
use Rattle.std.specs.Prelude.{ℕ, zero, suc, ◌*◌, ◌/◌, ◌<◌, ◌≡◌, ◌≢◌, ℤ, pos, negsuc, ◌*ℤ◌, neg_ℤ, ◌<ℤ◌, unsigned_abs, refl}
use Rattle.std.specs.Int.{IsGcd, ◌∣◌}
use Rattle.std.proofs.Common.{sym, ap, subst, ◌∙◌, arith, mul-pos}
use Rattle.std.proofs.lemmas.Int.{ints, unsigned_abs-mul}
use Rattle.std.proofs.lemmas.Nat.Gcd.{IsGcd-swap, dvd_trans}
use Rattle.std.proofs.Math.Nat.{one-dvd, dvd-mul_right_of_dvd, dvd-mul_left, mul-div_cancel'}
use Rattle.ratios.specs.Gcd.{gcd, IsGcd-gcd}
use Rattle.ratios.specs.Reduced.{unsigned_abs-int_div}
use Rattle.ratios.specs.Ratio.{Ratio, IsReduced, ratio, ratio_mul, ratio_div, zero_ratio}
use Rattle.ratios.specs.Code.{ratio-num, ratio-den}
use Rattle.ratios.proofs.Euclid.{dvd_from_coprime}
use Rattle.std.proofs.Math.IntN.{*ℤ_comm}
use Rattle.ratios.proofs.Over.{IsOver, neg-mul, over_as, over_itself, over_mul, over_ratio, same_over}
use Rattle.ratios.proofs.Parts.{over_zero, ratio-negative}

-- ---- common divisors
coprime_mul : (a b c : ℕ) → IsGcd a b 1 → IsGcd a c 1 → IsGcd a (b * c) 1
coprime_mul a b c h k = (one-dvd a, one-dvd (b * c), λ d p q. k.2 d p (dvd_from_coprime a b c d h (dvd-mul_right_of_dvd d p c) q))

-- divisors of two numbers without a common divisor have none
coprime_divisors : (a b x y : ℕ) → IsGcd a b 1 → x ∣ a → y ∣ b → IsGcd x y 1
coprime_divisors a b x y h p q = (one-dvd x, one-dvd y, λ d s t. h.2 d (dvd_trans d s p) (dvd_trans d t q))

-- four numbers, of which no two across have a common divisor
coprime_products : (a b c d : ℕ) → IsGcd a c 1 → IsGcd a d 1 → IsGcd b c 1 → IsGcd b d 1 → IsGcd (a * b) (c * d) 1
coprime_products a b c d h k m n =
    IsGcd-swap (c * d) (a * b) 1 (coprime_mul (c * d) a b (IsGcd-swap a (c * d) 1 (coprime_mul a c d h k)) (IsGcd-swap b (c * d) 1 (coprime_mul b c d m n)))

quotient_divides : (g n : ℕ) → g ∣ n → n / g ∣ n
quotient_divides g n h = subst (λ t. n / g ∣ t) (mul-div_cancel' g h) (dvd-mul_left (n / g) g)

-- the parts of z / d divide z and d
num_divides : (z : ℤ) (d : ℕ) → 0 < d → unsigned_abs (ratio z (pos d)).num ∣ unsigned_abs z
num_divides z d h =
    let g = gcd (unsigned_abs z) d in
    subst (λ t. t ∣ unsigned_abs z) (sym (ap unsigned_abs (ratio-num z d h) ∙ unsigned_abs-int_div z g)) (quotient_divides g (unsigned_abs z) (IsGcd-gcd (unsigned_abs z) d).0)

den_divides : (z : ℤ) (d : ℕ) → 0 < d → (ratio z (pos d)).den ∣ d
den_divides z d h = let g = gcd (unsigned_abs z) d in subst (λ t. t ∣ d) (sym (ratio-den z d h)) (quotient_divides g d (IsGcd-gcd (unsigned_abs z) d).1)

-- ---- products: the numerator of q over the denominator of r
abbrev pub across : Ratio → Ratio → Ratio
across q r = ratio q.num (pos r.den)

pub across_reduced : (q r : Ratio) → IsReduced ((across q r).num *ℤ (across r q).num) ((across q r).den * (across r q).den)
across_reduced q r =
    let x = across q r in
    let y = across r q in
    let h = coprime_divisors (unsigned_abs q.num) q.den (unsigned_abs x.num) y.den q.coprime (num_divides q.num r.den r.positive) (den_divides r.num q.den q.positive) in
    let k = coprime_divisors (unsigned_abs r.num) r.den (unsigned_abs y.num) x.den r.coprime (num_divides r.num q.den q.positive) (den_divides q.num r.den r.positive) in
    (mul-pos x.positive y.positive, rw (unsigned_abs-mul x.num y.num) (coprime_products (unsigned_abs x.num) (unsigned_abs y.num) x.den y.den x.coprime h k y.coprime))

pub across_mul : (q r : Ratio) → ratio_mul (across q r) (across r q) ≡ ratio_mul q r
across_mul q r =
    let e : r.den * q.den ≡ q.den * r.den = omega arith in
    same_over (q.num *ℤ r.num) (q.den * r.den) _ _
    (subst (λ n. IsOver (q.num *ℤ r.num) n (ratio_mul (across q r) (across r q))) e (over_mul q.num r.num r.den q.den _ _ (over_ratio q.num r.den r.positive) (over_ratio r.num q.den q.positive)))
    (over_ratio (q.num *ℤ r.num) (q.den * r.den) (mul-pos q.positive r.positive))

-- ---- quotients: q over r is q times 1 over r
mul_over : (q : Ratio) (z : ℤ) (d : ℕ) → 0 < d → ratio_mul q (ratio z (pos d)) ≡ ratio (q.num *ℤ z) (pos (q.den * d))
mul_over q z d h =
    same_over (q.num *ℤ z) (q.den * d) _ _ (over_mul q.num z q.den d q _ (over_itself q) (over_ratio z d h)) (over_ratio (q.num *ℤ z) (q.den * d) (mul-pos q.positive h))

mul-neg : (m n : ℤ) → m *ℤ neg_ℤ n ≡ neg_ℤ (m *ℤ n)
mul-neg m n = *ℤ_comm m (neg_ℤ n) ∙ neg-mul n m ∙ ap neg_ℤ (*ℤ_comm n m)

negative_mul : (k d : ℕ) → 0 < d → (negsuc k *ℤ pos d) <ℤ pos 0
negative_mul k zero h = elim h [ ]
negative_mul k (suc d) h = omega (arith, ints)

mul_inverse : (q : Ratio) (n : ℤ) (e : ℕ) → n ≢ pos 0 → ratio_mul q (ratio (pos e) n) ≡ ratio (q.num *ℤ pos e) (n *ℤ pos q.den)
mul_inverse q (pos zero) e h = absurd (h refl)
mul_inverse q (pos (suc k)) e h =
    let c : q.den * suc k ≡ suc k * q.den = omega arith in
    mul_over q (pos e) (suc k) (omega arith) ∙ ap (λ n. ratio (q.num *ℤ pos e) (pos n)) c
mul_inverse q (negsuc k) e h =
    let c : q.den * suc k ≡ unsigned_abs (negsuc k *ℤ pos q.den) = sym (unsigned_abs-mul (negsuc k) (pos q.den) ∙ omega arith) in
    ap (ratio_mul q) (sym (ratio-negative (pos e) (negsuc k) (suc k) refl (omega (arith, ints)))) ∙ mul_over q (neg_ℤ (pos e)) (suc k) (omega arith)
    ∙ ap (λ n. ratio n (pos (q.den * suc k))) (mul-neg q.num (pos e)) ∙ ratio-negative (q.num *ℤ pos e) (negsuc k *ℤ pos q.den) (q.den * suc k) c (negative_mul k q.den q.positive)

-- only 0 has the numerator 0
pub num_not_zero : (q : Ratio) → q ≢ zero_ratio → q.num ≢ pos 0
num_not_zero q h e = h (same_over (pos 0) q.den q zero_ratio (over_as q.num (pos 0) q.den q (over_itself q) e) (over_zero q.den q.positive))

pub ratio_mul_inverse : (q r : Ratio) → r ≢ zero_ratio → ratio_mul q (ratio (pos r.den) r.num) ≡ ratio_div q r
ratio_mul_inverse q r h = mul_inverse q r.num r.den (num_not_zero r h)
