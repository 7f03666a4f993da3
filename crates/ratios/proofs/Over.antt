-- What a ratio is a quotient of: `IsOver z d q` says that q is z / d. Laws of ratios go by a common denominator.
use Rattle.std.proofs.Common.{ℕ, zero, suc, ◌+◌, ◌*◌, ◌≤◌, ◌<◌, ◌≡◌, ℤ, pos, negsuc, ◌+ℤ◌, ◌-ℤ◌, ◌*ℤ◌, neg_ℤ, ◌≤ℤ◌, unsigned_abs, refl, sym, ap, subst, ◌∙◌, arith}
use Rattle.std.proofs.lemmas.Int.{ints, unsigned_abs-mul}
use Rattle.std.proofs.Math.Nat.{mul-le-mul_right, mul-pos, eq_of_mul-eq-mul_right, le_of_mul-le-mul_right}
use borrow.Author.Differences.{up, down, neg_is, product_is}
use Rattle.ratios.specs.Reduced.{quotients_times_gcd}
use Rattle.ratios.specs.Ratio.{Ratio, reduced, ratio, ratio_add, ratio_sub, ratio_mul, ratio_neg, ratio_abs, ratio_half}
use Rattle.ratios.specs.Code.{same_parts}
use Rattle.ratios.proofs.Euclid.{same_denominator}

-- q is z / d
pub record IsOver (z : ℤ) (d : ℕ) (q : Ratio) : Type 0 where
  pub some : 0 < d
  pub cross : q.num *ℤ pos d ≡ z *ℤ pos q.den

pub over_itself : (q : Ratio) → IsOver q.num q.den q
over_itself q = record { some = q.positive; cross = refl }

cross_of_multiples : (g x y m d : ℕ) → g * x ≡ m → g * y ≡ d → x * d ≡ m * y
cross_of_multiples g x y m d h k = omega (arith, ap (λ n. x * n) k, ap (λ n. n * y) h)

pub neg-mul : (m n : ℤ) → neg_ℤ m *ℤ n ≡ neg_ℤ (m *ℤ n)
neg-mul m n =
    let a = ap (λ k. k * up n) (neg_is m).0 in
    let b = ap (λ k. k * down n) (neg_is m).0 in
    let c = ap (λ k. k * up n) (neg_is m).1 in
    let d = ap (λ k. k * down n) (neg_is m).1 in
    omega (arith, ints)

neg_cross_of_multiples : (a b c : ℕ) → a * b ≡ c → neg_ℤ (pos a) *ℤ pos b ≡ neg_ℤ (pos c)
neg_cross_of_multiples a b c e = neg-mul (pos a) (pos b) ∙ ap (λ n. neg_ℤ (pos n)) e

reduced_cross : (z : ℤ) (k : ℕ) → (reduced z k).num *ℤ pos (suc k) ≡ z *ℤ pos (reduced z k).den
unfolding reduced
reduced_cross (pos n) k = let p = quotients_times_gcd n k in ap pos (cross_of_multiples _ _ _ _ _ p.0 p.1)
reduced_cross (negsuc n) k = let p = quotients_times_gcd (suc n) k in neg_cross_of_multiples _ _ _ (cross_of_multiples _ _ _ _ _ p.0 p.1)

pub over_ratio : (z : ℤ) (d : ℕ) → 0 < d → IsOver z d (ratio z (pos d))
unfolding ratio
over_ratio z zero h = absurd (omega arith)
over_ratio z (suc k) h = record { some = h; cross = reduced_cross z k }

-- ---- equal cross products, equal ratios
abs_cross : (m n : ℤ) (a b : ℕ) → m *ℤ pos b ≡ n *ℤ pos a → unsigned_abs m * b ≡ unsigned_abs n * a
abs_cross m n a b e = sym (unsigned_abs-mul m (pos b)) ∙ ap unsigned_abs e ∙ unsigned_abs-mul n (pos a)

-- a positive factor of both sides may be left out
pub cancel : (m n : ℤ) (d : ℕ) → 0 < d → m *ℤ pos d ≡ n *ℤ pos d → m ≡ n
cancel m n d h e =
    let k : (up m + down n) * d ≡ (up n + down m) * d = omega (arith, ints, e) in
    let j : up m + down n ≡ up n + down m = eq_of_mul-eq-mul_right d h _ _ k in
    omega (arith, ints, j)

pub cancel_le : (m n : ℤ) (d : ℕ) → 0 < d → (m *ℤ pos d) ≤ℤ (n *ℤ pos d) → m ≤ℤ n
cancel_le m n d h e =
    let k : (up m + down n) * d ≤ (up n + down m) * d = omega (arith, ints, e) in
    let j : up m + down n ≤ up n + down m = le_of_mul-le-mul_right k h in
    omega (arith, ints, j)

pub same_cross : (q r : Ratio) → q.num *ℤ pos r.den ≡ r.num *ℤ pos q.den → q ≡ r
same_cross q r e =
    let f : q.den ≡ r.den = same_denominator (unsigned_abs q.num) (unsigned_abs r.num) q.den r.den q.coprime r.coprime (abs_cross q.num r.num q.den r.den e) in
    same_parts q r (cancel q.num r.num q.den q.positive (subst (λ (n : ℕ). q.num *ℤ pos n ≡ r.num *ℤ pos q.den) (sym f) e)) f

-- ---- cross products as equations of natural numbers, z = up z - down z, which omega can multiply out
pub cross_parts : (m z : ℤ) (d e : ℕ) → m *ℤ pos d ≡ z *ℤ pos e → up m * d + down z * e ≡ up z * e + down m * d
cross_parts m z d e h = omega (arith, ints, h)

pub parts_cross : (m z : ℤ) (d e : ℕ) → up m * d + down z * e ≡ up z * e + down m * d → m *ℤ pos d ≡ z *ℤ pos e
parts_cross m z d e h = omega (arith, ints, h)

le_parts : (m z : ℤ) (d e : ℕ) → (m *ℤ pos d) ≤ℤ (z *ℤ pos e) → up m * d + down z * e ≤ up z * e + down m * d
le_parts m z d e h = omega (arith, ints, h)

parts_le : (m z : ℤ) (d e : ℕ) → up m * d + down z * e ≤ up z * e + down m * d → (m *ℤ pos d) ≤ℤ (z *ℤ pos e)
parts_le m z d e h = omega (arith, ints, h)

-- n / b is z / d where n * d = z * b
moved : (n z m : ℤ) (b d e : ℕ) → 0 < b → m *ℤ pos b ≡ n *ℤ pos e → n *ℤ pos d ≡ z *ℤ pos b → m *ℤ pos d ≡ z *ℤ pos e
moved n z m b d e some g h =
    let p = ap (λ k. k * d) (cross_parts m n b e g) in
    let q = ap (λ k. k * e) (cross_parts n z d b h) in
    let t : (up m * d + down z * e) * b ≡ (up z * e + down m * d) * b = omega (arith, p, q) in
    parts_cross m z d e (eq_of_mul-eq-mul_right b some _ _ t)

pub over_moved : (n z : ℤ) (b d : ℕ) (q : Ratio) → IsOver n b q → 0 < d → n *ℤ pos d ≡ z *ℤ pos b → IsOver z d q
over_moved n z b d q h some e = record { some = some; cross = moved n z q.num b d q.den h.some h.cross e }

pub same_over : (z : ℤ) (d : ℕ) (q r : Ratio) → IsOver z d q → IsOver z d r → q ≡ r
same_over z d q r h k = same_cross q r (moved z r.num q.num d r.den q.den h.some h.cross (sym k.cross))

-- ---- the order, over one denominator
pub whole_from_cross : (z y : ℤ) (d : ℕ) (q r : Ratio) → IsOver z d q → IsOver y d r → (q.num *ℤ pos r.den) ≤ℤ (r.num *ℤ pos q.den) → z ≤ℤ y
whole_from_cross z y d q r h k le =
    let a = ap (λ n. n * r.den) (cross_parts q.num z d q.den h.cross) in
    let b = ap (λ n. n * q.den) (cross_parts r.num y d r.den k.cross) in
    let c = mul-le-mul_right d (le_parts q.num r.num r.den q.den le) in
    let t : (up z + down y) * (q.den * r.den) ≤ (up y + down z) * (q.den * r.den) = omega (arith, a, b, c) in
    let u : up z + down y ≤ up y + down z = le_of_mul-le-mul_right t (mul-pos q.positive r.positive) in
    omega (arith, ints, u)

pub cross_from_whole : (z y : ℤ) (d : ℕ) (q r : Ratio) → IsOver z d q → IsOver y d r → z ≤ℤ y → (q.num *ℤ pos r.den) ≤ℤ (r.num *ℤ pos q.den)
cross_from_whole z y d q r h k le =
    let a = ap (λ n. n * r.den) (cross_parts q.num z d q.den h.cross) in
    let b = ap (λ n. n * q.den) (cross_parts r.num y d r.den k.cross) in
    let u : up z + down y ≤ up y + down z = omega (arith, ints, le) in
    let c = mul-le-mul_right (q.den * r.den) u in
    let t : (up q.num * r.den + down r.num * q.den) * d ≤ (up r.num * q.den + down q.num * r.den) * d = omega (arith, a, b, c) in
    parts_le q.num r.num r.den q.den (le_of_mul-le-mul_right t h.some)

-- ---- the operations
add_parts : (m n z y : ℤ) (d a b : ℕ) → up m * d + down z * a ≡ up z * a + down m * d → up n * d + down y * b ≡ up y * b + down n * d →
    up (m *ℤ pos b +ℤ n *ℤ pos a) * d + down (z +ℤ y) * (a * b) ≡ up (z +ℤ y) * (a * b) + down (m *ℤ pos b +ℤ n *ℤ pos a) * d
add_parts m n z y d a b h k =
    let e : up (m *ℤ pos b +ℤ n *ℤ pos a) + (down m * b + down n * a) ≡ down (m *ℤ pos b +ℤ n *ℤ pos a) + (up m * b + up n * a) = omega (arith, ints) in
    let f : up (z +ℤ y) + down z + down y ≡ down (z +ℤ y) + up z + up y = omega (arith, ints) in
    omega (arith, ap (λ n. n * d) e, ap (λ n. n * (a * b)) f, ap (λ n. n * b) h, ap (λ n. n * a) k)

pub over_add : (z y : ℤ) (d : ℕ) (q r : Ratio) → IsOver z d q → IsOver y d r → IsOver (z +ℤ y) d (ratio_add q r)
over_add z y d q r h k =
    over_moved (q.num *ℤ pos r.den +ℤ r.num *ℤ pos q.den) (z +ℤ y) (q.den * r.den) d (ratio_add q r)
    (over_ratio _ _ (mul-pos q.positive r.positive)) h.some
    (parts_cross _ _ d (q.den * r.den) (add_parts q.num r.num z y d q.den r.den (cross_parts q.num z d q.den h.cross) (cross_parts r.num y d r.den k.cross)))

pub over_neg : (z : ℤ) (d : ℕ) (q : Ratio) → IsOver z d q → IsOver (neg_ℤ z) d (ratio_neg q)
over_neg z d q h =
    over_moved (neg_ℤ q.num) (neg_ℤ z) q.den d (ratio_neg q) (over_ratio _ _ q.positive) h.some
    (neg-mul q.num (pos d) ∙ ap neg_ℤ h.cross ∙ sym (neg-mul z (pos q.den)))

pub over_abs : (z : ℤ) (d : ℕ) (q : Ratio) → IsOver z d q → IsOver (pos (unsigned_abs z)) d (ratio_abs q)
over_abs z d q h =
    over_moved (pos (unsigned_abs q.num)) (pos (unsigned_abs z)) q.den d (ratio_abs q) (over_ratio _ _ q.positive) h.some
    (ap pos (abs_cross q.num z q.den d h.cross))

pub over_half : (z : ℤ) (d : ℕ) (q : Ratio) → IsOver z d q → IsOver z (2 * d) (ratio_half q)
over_half z d q h =
    let e = cross_parts q.num z d q.den h.cross in
    over_moved q.num z (2 * q.den) (2 * d) (ratio_half q) (over_ratio _ _ (let p = q.positive in omega arith)) (let p = h.some in omega arith)
    (parts_cross q.num z (2 * d) (2 * q.den) (omega (arith, e)))

pub scaled_up : (z : ℤ) (k : ℕ) → up (z *ℤ pos k) ≡ up z * k
scaled_up z k = omega (arith, ints)

pub scaled_down : (z : ℤ) (k : ℕ) → down (z *ℤ pos k) ≡ down z * k
scaled_down z k = omega (arith, ints)

pub over_scaled : (z : ℤ) (d k : ℕ) (q : Ratio) → 0 < k → IsOver z d q → IsOver (z *ℤ pos k) (d * k) q
over_scaled z d k q p h =
    let e = ap (λ n. n * k) (cross_parts q.num z d q.den h.cross) in
    let a = ap (λ n. n * q.den) (scaled_up z k) in
    let b = ap (λ n. n * q.den) (scaled_down z k) in
    record { some = mul-pos h.some p; cross = parts_cross q.num (z *ℤ pos k) (d * k) q.den (omega (arith, e)) }

-- ---- two ratios over the product of their denominators
pub common : (q r : Ratio) → IsOver (q.num *ℤ pos r.den) (q.den * r.den) q × IsOver (r.num *ℤ pos q.den) (q.den * r.den) r
common q r = (
  over_scaled q.num q.den r.den q r.positive (over_itself q),
  subst (λ n. IsOver (r.num *ℤ pos q.den) n r) (omega arith) (over_scaled r.num r.den q.den r q.positive (over_itself r)),
)

mul_parts : (m n z y : ℤ) (d e a b : ℕ) → up m * d + down z * a ≡ up z * a + down m * d → up n * e + down y * b ≡ up y * b + down n * e →
    up (m *ℤ n) * (d * e) + down (z *ℤ y) * (a * b) ≡ up (z *ℤ y) * (a * b) + down (m *ℤ n) * (d * e)
mul_parts m n z y d e a b h k =
    let p = product_is m n in
    let q = product_is z y in
    rw (p.0, p.1, q.0, q.1) (omega (arith, ap (λ t. t * (up n * e)) h, ap (λ t. t * (down n * e)) h, ap (λ t. t * (up z * a)) k, ap (λ t. t * (down z * a)) k))

pub over_mul : (z y : ℤ) (d e : ℕ) (q r : Ratio) → IsOver z d q → IsOver y e r → IsOver (z *ℤ y) (d * e) (ratio_mul q r)
over_mul z y d e q r h k =
    over_moved (q.num *ℤ r.num) (z *ℤ y) (q.den * r.den) (d * e) (ratio_mul q r)
    (over_ratio _ _ (mul-pos q.positive r.positive)) (mul-pos h.some k.some)
    (parts_cross _ _ (d * e) (q.den * r.den) (mul_parts q.num r.num z y d e q.den r.den (cross_parts q.num z d q.den h.cross) (cross_parts r.num y e r.den k.cross)))

neg_cross : (m z : ℤ) (d e : ℕ) → m *ℤ pos d ≡ z *ℤ pos e → neg_ℤ m *ℤ pos d ≡ neg_ℤ z *ℤ pos e
neg_cross m z d e h = neg-mul m (pos d) ∙ ap neg_ℤ h ∙ sym (neg-mul z (pos e))

pub over_sub : (z y : ℤ) (d : ℕ) (q r : Ratio) → IsOver z d q → IsOver y d r → IsOver (z -ℤ y) d (ratio_sub q r)
over_sub z y d q r h k =
    over_moved (q.num *ℤ pos r.den -ℤ r.num *ℤ pos q.den) (z -ℤ y) (q.den * r.den) d (ratio_sub q r)
    (over_ratio _ _ (mul-pos q.positive r.positive)) h.some
    (parts_cross _ _ d (q.den * r.den)
    (rw (neg-mul r.num (pos q.den)) at
    (add_parts q.num (neg_ℤ r.num) z (neg_ℤ y) d q.den r.den (cross_parts q.num z d q.den h.cross) (cross_parts (neg_ℤ r.num) (neg_ℤ y) d r.den (neg_cross r.num y d r.den k.cross)))))

-- the numerator may be written otherwise
pub over_as : (z y : ℤ) (d : ℕ) (q : Ratio) → IsOver z d q → z ≡ y → IsOver y d q
over_as z y d q h e = record { some = h.some; cross = h.cross ∙ ap (λ t. t *ℤ pos q.den) e }

-- one ratio over one denominator has one numerator
pub same_numerator : (z y : ℤ) (d : ℕ) (q : Ratio) → IsOver z d q → IsOver y d q → z ≡ y
same_numerator z y d q h k = cancel z y q.den q.positive (sym h.cross ∙ k.cross)
