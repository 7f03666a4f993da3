-- Euclid's lemma, and that two reduced pairs with one quotient have one denominator.
use Rattle.std.specs.Prelude.{ℕ, zero, suc, ◌+◌, ◌*◌, ◌/◌, ◌%◌, ◌≤◌, ◌≡◌}
use Rattle.std.specs.Int.{IsGcd, ◌∣◌}
use Rattle.std.proofs.Common.{sym, ap, subst, arith, div-add-mod'}
use Rattle.std.proofs.lemmas.Nat.Gcd.{same_from_IsGcd, dvd_antisymm}
use Rattle.std.proofs.Math.Nat.{dvd-add_iff_right, dvd-mul_left_of_dvd, dvd-mul_left, dvd-mul_right}
use Rattle.ratios.specs.Gcd.{gcd, gcd_within, IsGcd-gcd}

dvd-mod-mul : (a b c d : ℕ) → d ∣ a * c → d ∣ b * c → d ∣ (a % b) * c
dvd-mod-mul a b c d p q =
    let e : a * c ≡ (a / b) * (b * c) + (a % b) * c = omega (arith, ap (λ n. n * c) (div-add-mod' a b)) in
    (dvd-add_iff_right d (dvd-mul_left_of_dvd d q (a / b))).1 (subst (λ n. d ∣ n) e p)

dvd-gcd_within-mul : (n a b c d : ℕ) → b ≤ n → d ∣ a * c → d ∣ b * c → d ∣ gcd_within n a b * c
unfolding gcd_within
dvd-gcd_within-mul zero a b c d h p q = p
dvd-gcd_within-mul (suc n) a zero c d h p q = p
dvd-gcd_within-mul (suc n) a (suc b) c d h p q =
    dvd-gcd_within-mul n (suc b) (a % suc b) c d (omega arith) q (dvd-mod-mul a (suc b) c d p q)

pub dvd-gcd-mul : (a b c d : ℕ) → d ∣ a * c → d ∣ b * c → d ∣ gcd a b * c
unfolding gcd
dvd-gcd-mul a b c d p q = dvd-gcd_within-mul b a b c d (omega arith) p q

-- Euclid's lemma, for a common divisor of two products
pub dvd_from_coprime : (a b c d : ℕ) → IsGcd a b 1 → d ∣ a * c → d ∣ b * c → d ∣ c
dvd_from_coprime a b c d h p q =
    let e : gcd a b ≡ 1 = same_from_IsGcd a b (gcd a b) 1 (IsGcd-gcd a b) h in
    let f : gcd a b * c ≡ c = rw e (omega arith) in
    subst (λ n. d ∣ n) f (dvd-gcd-mul a b c d p q)

-- two reduced pairs with equal cross products have the same denominator
pub same_denominator : (m n a b : ℕ) → IsGcd m a 1 → IsGcd n b 1 → m * b ≡ n * a → a ≡ b
same_denominator m n a b p q e =
    dvd_antisymm
    (dvd_from_coprime m a b a p (subst (λ k. a ∣ k) (sym e) (dvd-mul_left a n)) (dvd-mul_right a b))
    (dvd_from_coprime n b a b q (subst (λ k. b ∣ k) e (dvd-mul_left b m)) (dvd-mul_right b a))
