-- The greatest common divisor of two numbers, by Euclid's steps.
use Rattle.std.specs.Prelude.{ℕ, zero, suc, ◌%◌, ◌≤◌, refl}
use Rattle.std.specs.Int.{IsGcd}
use Rattle.std.proofs.Common.{arith}
use Rattle.std.proofs.lemmas.Nat.Gcd.{IsGcd-from_zero, IsGcd-from_mod}

-- what at most n of Euclid's steps leave of two numbers
unfoldable pub gcd_within : ℕ → ℕ → ℕ → ℕ
gcd_within zero a b = a
gcd_within (suc n) a zero = a
gcd_within (suc n) a (suc b) = gcd_within n (suc b) (a % suc b)

-- the greatest common divisor, since b steps are enough
unfoldable pub gcd : ℕ → ℕ → ℕ
gcd a b = gcd_within b a b

IsGcd-gcd_within : (n a b : ℕ) → b ≤ n → IsGcd a b (gcd_within n a b)
unfolding gcd_within
IsGcd-gcd_within zero a b h = IsGcd-from_zero a b (omega arith)
IsGcd-gcd_within (suc n) a zero h = IsGcd-from_zero a 0 refl
IsGcd-gcd_within (suc n) a (suc b) h =
    IsGcd-from_mod a (suc b) (gcd_within n (suc b) (a % suc b)) (IsGcd-gcd_within n (suc b) (a % suc b) (omega arith))

pub IsGcd-gcd : (a b : ℕ) → IsGcd a b (gcd a b)
unfolding gcd
IsGcd-gcd a b = IsGcd-gcd_within b a b (omega arith)
