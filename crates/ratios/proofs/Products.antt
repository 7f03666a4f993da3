-- Products with 0 and 1, products and quotients of sums.
use Rattle.std.specs.Prelude.{◌≡◌, ◌<◌, ◌+◌, ◌*◌, ℕ, zero, suc, ℤ, pos, ◌+ℤ◌, ◌*ℤ◌, refl}
use Rattle.std.proofs.Common.{sym, ap, arith, mul-pos}
use Rattle.std.proofs.lemmas.Int.{ints}
use borrow.Author.Differences.{up, down, product_is}
use Rattle.ratios.specs.Ratio.{Ratio, one_ratio, ratio, ratio_add, ratio_mul, zero_ratio}
use Rattle.ratios.proofs.Additive.{ratio_add_zero}
use Rattle.ratios.proofs.Linear.{add, mul, same_of}
use Rattle.ratios.proofs.Order.{three}
use Rattle.ratios.proofs.Over.{IsOver, over_add, over_as, over_itself, over_mul, over_ratio, over_scaled, same_over}
use Rattle.ratios.proofs.Parts.{over_zero}

whole_zero : (n : ℤ) → n *ℤ pos 0 ≡ pos 0
whole_zero n = omega (arith, ints)

zero_whole : (n : ℤ) → pos 0 *ℤ n ≡ pos 0
zero_whole n = omega (arith, ints)

one_over : IsOver (pos 1) 1 one_ratio
unfolding one_ratio
one_over = record { some = omega arith; cross = refl }

pub ratio_mul_zero : (q : Ratio) → ratio_mul q zero_ratio ≡ zero_ratio
ratio_mul_zero q =
    let p : 0 < 1 = omega arith in
    same_over (pos 0) (q.den * 1) _ _ (over_as _ _ _ _ (over_mul _ _ _ _ _ _ (over_itself q) (over_zero 1 p)) (whole_zero q.num)) (over_zero (q.den * 1) (mul-pos q.positive p))

pub ratio_zero_mul : (q : Ratio) → ratio_mul zero_ratio q ≡ zero_ratio
ratio_zero_mul q =
    let p : 0 < 1 = omega arith in
    same_over (pos 0) (1 * q.den) _ _ (over_as _ _ _ _ (over_mul _ _ _ _ _ _ (over_zero 1 p) (over_itself q)) (zero_whole q.num)) (over_zero (1 * q.den) (mul-pos p q.positive))

pub ratio_mul_one : (q : Ratio) → ratio_mul q one_ratio ≡ q
ratio_mul_one q =
    let p : 0 < 1 = omega arith in
    same_over (q.num *ℤ pos 1) (q.den * 1) _ _ (over_mul _ _ _ _ _ _ (over_itself q) one_over) (over_scaled q.num q.den 1 q p (over_itself q))

-- ---- of sums

whole_distributes : (a b c : ℤ) → a *ℤ (b +ℤ c) ≡ a *ℤ b +ℤ a *ℤ c
whole_distributes a b c =
    let e : up (b +ℤ c) + down b + down c ≡ down (b +ℤ c) + up b + up c = omega (arith, ints) in
    omega (arith, ints, product_is a (b +ℤ c), product_is a b, product_is a c, ap (λ n. up a * n) e, ap (λ n. down a * n) e)

pub ratio_mul_add : (q r s : Ratio) → ratio_mul q (ratio_add r s) ≡ ratio_add (ratio_mul q r) (ratio_mul q s)
ratio_mul_add q r s =
    let t = three q r s in
    same_of (mul t.first (add t.second t.third)) (add (mul t.first t.second) (mul t.first t.third)) (whole_distributes t.a t.b t.c)

-- no part of d, and two parts of it
pub ratio_of_none : (d : ℕ) → ratio (pos 0) (pos d) ≡ zero_ratio
unfolding ratio
ratio_of_none zero = refl
ratio_of_none (suc d) = let p : 0 < suc d = omega arith in same_over (pos 0) (suc d) _ _ (over_ratio (pos 0) (suc d) p) (over_zero (suc d) p)

pub ratio_of_both : (m n d : ℕ) → ratio (pos (m + n)) (pos d) ≡ ratio_add (ratio (pos m) (pos d)) (ratio (pos n) (pos d))
unfolding ratio
ratio_of_both m n zero = sym (ratio_add_zero zero_ratio)
ratio_of_both m n (suc d) =
    let p : 0 < suc d = omega arith in
    same_over (pos (m + n)) (suc d) _ _ (over_ratio (pos (m + n)) (suc d) p) (over_add (pos m) (pos n) (suc d) _ _ (over_ratio (pos m) (suc d) p) (over_ratio (pos n) (suc d) p))
