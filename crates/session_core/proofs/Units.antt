-- How large a weight is in units of 2^-20.
use Rattle.std.proofs.Common.{ℕ, arith}
use Rattle.std.specs.Prelude.{ℤ, pos, negsuc, neg_ℤ, ◌≤ℤ◌, ◌<ℤ◌}
use Rattle.std.specs.Int.{int_div_euclid}
use Rattle.std.proofs.Math.Nat.{div-le_self}
use Rattle.std.proofs.lemmas.Int.{ints}

-- a quotient by a whole number lies no further out than what is divided
pub quotient_within : (z : ℤ) (d m : ℕ) → neg_ℤ (pos m) ≤ℤ z → z <ℤ pos m → (neg_ℤ (pos m) ≤ℤ int_div_euclid z (pos d)) × (int_div_euclid z (pos d) <ℤ pos m)
quotient_within (pos a) d m low high =
    let less = div-le_self a d in (omega (arith, ints, less, low, high), omega (arith, ints, less, low, high))
quotient_within (negsuc a) d m low high =
    let less = div-le_self a d in (omega (arith, ints, less, low, high), omega (arith, ints, less, low, high))
