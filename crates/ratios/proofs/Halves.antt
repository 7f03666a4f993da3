-- Halves.
use Rattle.std.specs.Prelude.{ℕ, ◌+◌, ◌*◌, ◌≡◌, ℤ, ◌+ℤ◌, refl}
use Rattle.std.proofs.Common.{arith, ap}
use Rattle.std.proofs.lemmas.Int.{ints}
use borrow.Author.Differences.{up, down}
use Rattle.ratios.specs.Ratio.{Ratio, ratio_add, ratio_half, ratio_sub, zero_ratio}
use Rattle.ratios.proofs.Linear.{◌⊑◌, add, half, le_of, nil, same_of, sub, whole_le}
use Rattle.ratios.proofs.Order.{three}
use Rattle.ratios.proofs.Over.{IsOver, over_itself, parts_cross, same_over}

doubled_parts : (n : ℤ) (d : ℕ) → up n * (2 * d) + down (n +ℤ n) * d ≡ up (n +ℤ n) * d + down n * (2 * d)
doubled_parts n d =
    let e : up (n +ℤ n) + down n + down n ≡ down (n +ℤ n) + up n + up n = omega (arith, ints) in
    omega (arith, ap (λ k. k * d) e)

-- q is twice its numerator over twice its denominator
over_doubled : (q : Ratio) → IsOver (q.num +ℤ q.num) (2 * q.den) q
over_doubled q = let p = q.positive in record { some = omega arith; cross = parts_cross q.num (q.num +ℤ q.num) (2 * q.den) q.den (doubled_parts q.num q.den) }

pub half_add : (q : Ratio) → ratio_add (ratio_half q) (ratio_half q) ≡ q
half_add q = let h = half (over_itself q) in same_over _ _ _ _ (add h h) (over_doubled q)

pub half_nonneg : {q : Ratio} → zero_ratio ⊑ q → zero_ratio ⊑ ratio_half q
half_nonneg {q} h =
    let o = over_itself q in
    let a = whole_le (nil o) o h in
    le_of (nil (half o)) (half o) a

pub half_zero : ratio_half zero_ratio ≡ zero_ratio
half_zero = let o = over_itself zero_ratio in same_of (half (nil o)) (nil (half o)) refl

-- half (p - t) + half (t - l) = half (p - l)
pub half_split : (p t l : Ratio) → ratio_add (ratio_half (ratio_sub p t)) (ratio_half (ratio_sub t l)) ≡ ratio_half (ratio_sub p l)
half_split p t l =
    let h = three p t l in
    same_of (add (half (sub h.first h.second)) (half (sub h.second h.third))) (half (sub h.first h.third)) (omega (arith, ints))

-- half (p - t) + half t = half p
pub half_rest : (p t : Ratio) → ratio_add (ratio_half (ratio_sub p t)) (ratio_half t) ≡ ratio_half p
half_rest p t = let h = three p t t in same_of (add (half (sub h.first h.second)) (half h.second)) (half h.first) (omega (arith, ints))
