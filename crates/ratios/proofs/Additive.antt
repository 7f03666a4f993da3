-- Equations of sums, differences and absolute values: each holds of whole numbers over one denominator.
use Rattle.std.proofs.Common.{◌≡◌, ℤ, pos, ◌-ℤ◌, unsigned_abs, sym, ap, ◌∙◌, subst, arith}
use Rattle.std.proofs.lemmas.Int.{ints}
use Rattle.ratios.specs.Ratio.{Ratio, ratio_abs, ratio_add, ratio_neg, ratio_sub, zero_ratio}
use Rattle.ratios.proofs.Linear.{abs, add, four, neg, nil, same_of, sub}
use Rattle.ratios.proofs.Order.{three}
use Rattle.ratios.proofs.Over.{IsOver, over_itself, same_numerator}

-- ---- sums

pub ratio_add_comm : (q r : Ratio) → ratio_add q r ≡ ratio_add r q
ratio_add_comm q r = let t = three q r r in same_of (add t.first t.second) (add t.second t.first) (omega (arith, ints))

pub ratio_add_assoc : (q r s : Ratio) → ratio_add (ratio_add q r) s ≡ ratio_add q (ratio_add r s)
ratio_add_assoc q r s =
    let t = three q r s in
    same_of (add (add t.first t.second) t.third) (add t.first (add t.second t.third)) (omega (arith, ints))

pub ratio_add_zero : (q : Ratio) → ratio_add q zero_ratio ≡ q
ratio_add_zero q = let h = over_itself q in same_of (add h (nil h)) h (omega (arith, ints))

pub ratio_zero_add : (q : Ratio) → ratio_add zero_ratio q ≡ q
ratio_zero_add q = ratio_add_comm zero_ratio q ∙ ratio_add_zero q

pub add_swap : (q r s t : Ratio) → ratio_add (ratio_add q r) (ratio_add s t) ≡ ratio_add (ratio_add q s) (ratio_add r t)
add_swap q r s t =
    let f = four q r s t in
    same_of (add (add f.first f.second) (add f.third f.fourth)) (add (add f.first f.third) (add f.second f.fourth)) (omega (arith, ints))

-- ---- differences

pub ratio_sub_itself : (q : Ratio) → ratio_sub q q ≡ zero_ratio
ratio_sub_itself q = let h = over_itself q in same_of (sub h h) (nil h) (omega (arith, ints))

pub ratio_add_sub : (q r : Ratio) → ratio_add q (ratio_sub r q) ≡ r
ratio_add_sub q r = let t = three q r r in same_of (add t.first (sub t.second t.first)) t.second (omega (arith, ints))

same_from_difference : (a b : ℤ) → a -ℤ b ≡ pos 0 → a ≡ b
same_from_difference a b e = omega (arith, ints)

pub same_from_sub_zero : (q r : Ratio) → ratio_sub q r ≡ zero_ratio → q ≡ r
same_from_sub_zero q r e =
    let t = three q r r in
    let o = subst (IsOver (t.a -ℤ t.b) t.d) e (sub t.first t.second) in
    same_of t.first t.second (same_from_difference t.a t.b (same_numerator _ _ _ _ o (nil t.first)))

pub ratio_sub_is_add_neg : (q r : Ratio) → ratio_sub q r ≡ ratio_add q (ratio_neg r)
ratio_sub_is_add_neg q r = let t = three q r r in same_of (sub t.first t.second) (add t.first (neg t.second)) (omega (arith, ints))

pub ratio_neg_neg : (q : Ratio) → ratio_neg (ratio_neg q) ≡ q
ratio_neg_neg q = let h = over_itself q in same_of (neg (neg h)) h (omega (arith, ints))

pub ratio_neg_sub : (q r : Ratio) → ratio_neg (ratio_sub q r) ≡ ratio_sub r q
ratio_neg_sub q r = let t = three q r r in same_of (neg (sub t.first t.second)) (sub t.second t.first) (omega (arith, ints))

pub sub_zero : (q : Ratio) → ratio_sub q zero_ratio ≡ q
sub_zero q = let h = over_itself q in same_of (sub h (nil h)) h (omega (arith, ints))

pub sub_twice : (q r s : Ratio) → ratio_sub q (ratio_add r s) ≡ ratio_sub (ratio_sub q r) s
sub_twice q r s = let t = three q r s in same_of (sub t.first (add t.second t.third)) (sub (sub t.first t.second) t.third) (omega (arith, ints))

-- the difference of two sums is the sum of the differences
pub sub_sums : (q r s t : Ratio) → ratio_sub (ratio_add q r) (ratio_add s t) ≡ ratio_add (ratio_sub q s) (ratio_sub r t)
sub_sums q r s t =
    let f = four q r s t in
    same_of (sub (add f.first f.second) (add f.third f.fourth)) (add (sub f.first f.third) (sub f.second f.fourth)) (omega (arith, ints))

-- ---- absolute values

whole_abs_zero : (z : ℤ) → pos (unsigned_abs z) ≡ pos 0 → z ≡ pos 0
whole_abs_zero z e = omega (arith, ints)

pub ratio_abs_zero : ratio_abs zero_ratio ≡ zero_ratio
ratio_abs_zero = let h = over_itself zero_ratio in same_of (abs (nil h)) (nil h) (omega (arith, ints))

-- only 0 has the absolute value 0
pub zero_from_abs : (q : Ratio) → ratio_abs q ≡ zero_ratio → q ≡ zero_ratio
zero_from_abs q e =
    let h = over_itself q in
    let o = subst (IsOver (pos (unsigned_abs q.num)) q.den) e (abs h) in
    same_of h (nil h) (whole_abs_zero q.num (same_numerator _ _ _ _ o (nil h)))

pub ratio_abs_neg : (q : Ratio) → ratio_abs (ratio_neg q) ≡ ratio_abs q
ratio_abs_neg q = let h = over_itself q in same_of (abs (neg h)) (abs h) (omega (arith, ints))

pub ratio_abs_sub_comm : (q r : Ratio) → ratio_abs (ratio_sub q r) ≡ ratio_abs (ratio_sub r q)
ratio_abs_sub_comm q r = sym (ratio_abs_neg (ratio_sub q r)) ∙ ap ratio_abs (ratio_neg_sub q r)

-- what is equal is not apart
pub abs_sub_same : {q r : Ratio} → q ≡ r → ratio_abs (ratio_sub q r) ≡ zero_ratio
abs_sub_same {q} {r} e = ap (λ t. ratio_abs (ratio_sub t r)) e ∙ ap ratio_abs (ratio_sub_itself r) ∙ ratio_abs_zero
