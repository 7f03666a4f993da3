-- A pair of whole numbers divided by its greatest common divisor is reduced.
use Rattle.std.specs.Prelude.{ℕ, zero, suc, ◌*◌, ◌/◌, ◌<◌, ◌≡◌, ℤ, pos, negsuc, unsigned_abs, int_div, refl}
use Rattle.std.specs.Int.{IsGcd, ◌∣◌}
use Rattle.std.proofs.Common.{subst, arith}
use Rattle.std.proofs.lemmas.Int.{ints}
use Rattle.std.proofs.Math.Nat.{one-dvd, dvd_of_mul-dvd-mul_left, mul-div_cancel', mul-dvd-mul_left, pos_of_dvd_of_pos}
use Rattle.ratios.specs.Gcd.{gcd, IsGcd-gcd}

gcd-positive : (m k : ℕ) → 0 < gcd m (suc k)
gcd-positive m k = pos_of_dvd_of_pos (IsGcd-gcd m (suc k)).1 (omega arith)

pub quotients_times_gcd : (m k : ℕ) → (gcd m (suc k) * (m / gcd m (suc k)) ≡ m) × (gcd m (suc k) * (suc k / gcd m (suc k)) ≡ suc k)
quotients_times_gcd m k = (mul-div_cancel' (gcd m (suc k)) (IsGcd-gcd m (suc k)).0, mul-div_cancel' (gcd m (suc k)) (IsGcd-gcd m (suc k)).1)

positive_from_product : (g q n : ℕ) → g * q ≡ suc n → 0 < q
positive_from_product g zero n e = absurd (omega (arith, e))
positive_from_product g (suc q) n e = omega arith

pub quotient_positive : (m k : ℕ) → 0 < suc k / gcd m (suc k)
quotient_positive m k = positive_from_product (gcd m (suc k)) (suc k / gcd m (suc k)) k (quotients_times_gcd m k).1

quotients_coprime : (m k : ℕ) → IsGcd (m / gcd m (suc k)) (suc k / gcd m (suc k)) 1
quotients_coprime m k =
    let g = gcd m (suc k) in (
      one-dvd (m / g),
      one-dvd (suc k / g),
      λ d p q.
          let a : g * d ∣ m = subst (λ n. g * d ∣ n) (quotients_times_gcd m k).0 (mul-dvd-mul_left d g p) in
          let b : g * d ∣ suc k = subst (λ n. g * d ∣ n) (quotients_times_gcd m k).1 (mul-dvd-mul_left d g q) in
          let h : g * d ∣ g * 1 = subst (λ n. g * d ∣ n) (omega arith) ((IsGcd-gcd m (suc k)).2 (g * d) a b) in
          dvd_of_mul-dvd-mul_left d (gcd-positive m k) h,
    )

pub unsigned_abs-int_div : (z : ℤ) (g : ℕ) → unsigned_abs (int_div z (pos g)) ≡ unsigned_abs z / g
unsigned_abs-int_div (pos n) g = refl
unsigned_abs-int_div (negsuc n) g = omega (arith, ints)

pub parts_coprime : (z : ℤ) (k : ℕ) → IsGcd (unsigned_abs (int_div z (pos (gcd (unsigned_abs z) (suc k))))) (suc k / gcd (unsigned_abs z) (suc k)) 1
parts_coprime z k = rw (unsigned_abs-int_div z (gcd (unsigned_abs z) (suc k))) (quotients_coprime (unsigned_abs z) k)

pub one_coprime : (m : ℕ) → IsGcd m 1 1
one_coprime m = (one-dvd m, one-dvd 1, λ d p q. q)

pub one_positive : 0 < 1
one_positive = omega arith
