-- Linear facts of ratios, by whole numbers over one denominator: an expression of ratios is proved to be a whole
-- number over it, part by part, and omega decides the rest.
use Rattle.std.specs.Prelude.{ℕ, ◌*◌, ◌≡◌, ◌⊎◌, ℤ, pos, ◌+ℤ◌, ◌-ℤ◌, ◌*ℤ◌, neg_ℤ, ◌≤ℤ◌, unsigned_abs, true, false, cond, refl}
use Rattle.std.proofs.Common.{arith, subst, inl, inr}
use Rattle.std.proofs.lemmas.Int.{ints}
use Rattle.ratios.specs.Ratio.{Ratio, ◌≼◌, is_at_most, ratio_abs, ratio_add, ratio_half, ratio_max, ratio_min, ratio_mul, ratio_neg, ratio_sub, zero_ratio}
use Rattle.ratios.proofs.AtMost.{at_least_if_not_at_most, le_over, over_le}
use Rattle.ratios.proofs.Order.{three}
use Rattle.ratios.proofs.Over.{IsOver, over_abs, over_add, over_as, over_half, over_itself, over_mul, over_neg, over_scaled, over_sub, same_over}
use Rattle.ratios.proofs.Parts.{over_zero}

-- that q is at most r, as a record, so that lemmas find q and r from it
infix 50 ◌⊑◌
pub record ◌⊑◌ (q r : Ratio) : Type 0 where
  pub le : q ≼ r

-- ---- the operations, over one denominator

pub nil : {d : ℕ} {z : ℤ} {q : Ratio} → IsOver z d q → IsOver (pos 0) d zero_ratio
nil {d} h = over_zero d h.some

pub add : {d : ℕ} {z y : ℤ} {q r : Ratio} → IsOver z d q → IsOver y d r → IsOver (z +ℤ y) d (ratio_add q r)
add h k = over_add _ _ _ _ _ h k

pub sub : {d : ℕ} {z y : ℤ} {q r : Ratio} → IsOver z d q → IsOver y d r → IsOver (z -ℤ y) d (ratio_sub q r)
sub h k = over_sub _ _ _ _ _ h k

pub neg : {d : ℕ} {z : ℤ} {q : Ratio} → IsOver z d q → IsOver (neg_ℤ z) d (ratio_neg q)
neg h = over_neg _ _ _ h

pub abs : {d : ℕ} {z : ℤ} {q : Ratio} → IsOver z d q → IsOver (pos (unsigned_abs z)) d (ratio_abs q)
abs h = over_abs _ _ _ h

pub half : {d : ℕ} {z : ℤ} {q : Ratio} → IsOver z d q → IsOver z (2 * d) (ratio_half q)
half h = over_half _ _ _ h

pub mul : {d e : ℕ} {z y : ℤ} {q r : Ratio} → IsOver z d q → IsOver y e r → IsOver (z *ℤ y) (d * e) (ratio_mul q r)
mul h k = over_mul _ _ _ _ _ _ h k

-- ---- what whole numbers say of ratios, and the other way round

pub le_of : {d : ℕ} {z y : ℤ} {q r : Ratio} → IsOver z d q → IsOver y d r → z ≤ℤ y → q ⊑ r
le_of h k e = record { le = over_le _ _ _ _ _ h k e }

pub whole_le : {d : ℕ} {z y : ℤ} {q r : Ratio} → IsOver z d q → IsOver y d r → q ⊑ r → z ≤ℤ y
whole_le h k e = le_over _ _ _ _ _ h k e.le

pub same_of : {d : ℕ} {z y : ℤ} {q r : Ratio} → IsOver z d q → IsOver y d r → z ≡ y → q ≡ r
same_of h k e = same_over _ _ _ _ (over_as _ _ _ _ h e) k

-- ---- the greater and the less of two

pub record Greater (z y : ℤ) (d : ℕ) (q r : Ratio) : Type 0 where
  pub m : ℤ
  pub over : IsOver m d (ratio_max q r)
  pub first : z ≤ℤ m
  pub second : y ≤ℤ m
  pub either : (m ≡ z) ⊎ (m ≡ y)

pub greater : {d : ℕ} {z y : ℤ} {q r : Ratio} → IsOver z d q → IsOver y d r → Greater z y d q r
greater {d} {z} {y} {q} {r} h k = as_record (elim (is_at_most q r) as (λ b. is_at_most q r ≡ b → (m : ℤ) × IsOver m d (cond b r q) × (z ≤ℤ m) × (y ≤ℤ m) × ((m ≡ z) ⊎ (m ≡ y))) [
  | true ↦ λ e. (y, k, le_over _ _ _ _ _ h k e, omega (arith, ints), inr refl)
  | false ↦ λ e. (z, h, omega (arith, ints), le_over _ _ _ _ _ k h (at_least_if_not_at_most q r e), inl refl)
] refl)
  where
    as_record : ((m : ℤ) × IsOver m d (ratio_max q r) × (z ≤ℤ m) × (y ≤ℤ m) × ((m ≡ z) ⊎ (m ≡ y))) → Greater z y d q r
    as_record p = record { m = p.0; over = p.1; first = p.2; second = p.3; either = p.4 }

pub record Less (z y : ℤ) (d : ℕ) (q r : Ratio) : Type 0 where
  pub m : ℤ
  pub over : IsOver m d (ratio_min q r)
  pub first : m ≤ℤ z
  pub second : m ≤ℤ y
  pub either : (m ≡ z) ⊎ (m ≡ y)

pub less : {d : ℕ} {z y : ℤ} {q r : Ratio} → IsOver z d q → IsOver y d r → Less z y d q r
less {d} {z} {y} {q} {r} h k = as_record (elim (is_at_most q r) as (λ b. is_at_most q r ≡ b → (m : ℤ) × IsOver m d (cond b q r) × (m ≤ℤ z) × (m ≤ℤ y) × ((m ≡ z) ⊎ (m ≡ y))) [
  | true ↦ λ e. (z, h, omega (arith, ints), le_over _ _ _ _ _ h k e, inl refl)
  | false ↦ λ e. (y, k, le_over _ _ _ _ _ k h (at_least_if_not_at_most q r e), omega (arith, ints), inr refl)
] refl)
  where
    as_record : ((m : ℤ) × IsOver m d (ratio_min q r) × (m ≤ℤ z) × (m ≤ℤ y) × ((m ≡ z) ⊎ (m ≡ y))) → Less z y d q r
    as_record p = record { m = p.0; over = p.1; first = p.2; second = p.3; either = p.4 }

-- ---- four ratios over one denominator

pub record Four (q r s t : Ratio) : Type 0 where
  pub d : ℕ
  pub a : ℤ
  pub b : ℤ
  pub c : ℤ
  pub e : ℤ
  pub first : IsOver a d q
  pub second : IsOver b d r
  pub third : IsOver c d s
  pub fourth : IsOver e d t

pub at_denominator : {d e : ℕ} {z : ℤ} {q : Ratio} → d ≡ e → IsOver z d q → IsOver z e q
at_denominator {z} {q} h k = subst (λ n. IsOver z n q) h k

pub four : (q r s t : Ratio) → Four q r s t
four q r s t =
    let u = three q r s in
    let swap : t.den * u.d ≡ u.d * t.den = omega arith in
    record {
      d = u.d * t.den;
      a = u.a *ℤ pos t.den;
      b = u.b *ℤ pos t.den;
      c = u.c *ℤ pos t.den;
      e = t.num *ℤ pos u.d;
      first = over_scaled _ _ t.den q t.positive u.first;
      second = over_scaled _ _ t.den r t.positive u.second;
      third = over_scaled _ _ t.den s t.positive u.third;
      fourth = at_denominator swap (over_scaled t.num t.den u.d t u.first.some (over_itself t));
    }
