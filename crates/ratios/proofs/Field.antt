-- The order of ratios, and how sums, differences, absolute values, and products keep it. Lemmas find their
-- ratios from the facts `q ⊑ r` that they take, so that a chain of them reads as the mathematics does.
use Rattle.std.specs.Prelude.{◌+◌, ◌*◌, ◌≤◌, ◌≡◌, ◌⊎◌, ℤ, pos, negsuc, ◌-ℤ◌, ◌*ℤ◌, ◌≤ℤ◌, true, false, cond, refl}
use Rattle.std.proofs.Common.{arith, sym, ap, ap₂, subst, inl, inr, ◌∙◌}
use Rattle.std.proofs.lemmas.Int.{ints, unsigned_abs-mul}
use Rattle.std.proofs.Math.Nat.{mul-le-mul_left}
use Rattle.std.proofs.Math.IntN.{*ℤ_comm}
use borrow.Author.Differences.{up, down, product_is}
use Rattle.ratios.specs.Ratio.{Ratio, ◌≼◌, is_at_most, one_ratio, ratio_abs, ratio_add, ratio_max, ratio_min, ratio_mul, ratio_sub, zero_ratio}
use Rattle.ratios.proofs.Additive.{ratio_add_zero}
use Rattle.ratios.proofs.AtMost.{at_least_if_not_at_most, at_most_itself}
use Rattle.ratios.proofs.Linear.{◌⊑◌, abs, add, four, le_of, mul, nil, same_of, sub, whole_le}
use Rattle.ratios.proofs.Order.{three}
use Rattle.ratios.proofs.Over.{over_itself}
use Rattle.ratios.proofs.Products.{ratio_mul_one, ratio_mul_zero}

-- ---- the order

pub le_from : (q r : Ratio) → q ≼ r → q ⊑ r
le_from q r h = record { le = h }

pub le_refl : (q : Ratio) → q ⊑ q
le_refl q = le_from q q (at_most_itself q)

pub le_trans : {q r s : Ratio} → q ⊑ r → r ⊑ s → q ⊑ s
le_trans {q} {r} {s} h k =
    let t = three q r s in
    let a = whole_le t.first t.second h in
    let b = whole_le t.second t.third k in
    le_of t.first t.third (omega (arith, ints))

pub le_same : {q r : Ratio} → q ≡ r → q ⊑ r
le_same {q} h = subst (λ t. q ⊑ t) h (le_refl q)

-- what is at most r, where r is s
pub le_then : {q r s : Ratio} → q ⊑ r → r ≡ s → q ⊑ s
le_then {q} h e = subst (λ t. q ⊑ t) e h

-- what q is, where that is at most s
pub same_then : {q r s : Ratio} → q ≡ r → r ⊑ s → q ⊑ s
same_then {s} e h = subst (λ t. t ⊑ s) (sym e) h

pub le_antisym : {q r : Ratio} → q ⊑ r → r ⊑ q → q ≡ r
le_antisym {q} {r} h k =
    let t = three q r r in
    let a = whole_le t.first t.second h in
    let b = whole_le t.second t.first k in
    same_of t.first t.second (omega (arith, ints))

-- ---- the greater and the less of two

pub max_nonneg : (q r : Ratio) → (zero_ratio ⊑ q) ⊎ (zero_ratio ⊑ r) → zero_ratio ⊑ ratio_max q r
max_nonneg q r (inl h) =
    elim (is_at_most q r) as (λ b. is_at_most q r ≡ b → zero_ratio ⊑ cond b r q) [ true ↦ λ e. le_trans h (le_from q r e) | false ↦ λ e. h ] refl
max_nonneg q r (inr h) =
    elim (is_at_most q r) as (λ b. is_at_most q r ≡ b → zero_ratio ⊑ cond b r q) [ true ↦ λ e. h | false ↦ λ e. le_trans h (le_from r q (at_least_if_not_at_most q r e)) ] refl

pub min_nonneg : {q r : Ratio} → zero_ratio ⊑ q → zero_ratio ⊑ r → zero_ratio ⊑ ratio_min q r
min_nonneg {q} {r} h k = elim (is_at_most q r) as (λ b. zero_ratio ⊑ cond b q r) [ true ↦ h | false ↦ k ]

-- ---- sums and differences

pub add_le : {q r s t : Ratio} → q ⊑ r → s ⊑ t → ratio_add q s ⊑ ratio_add r t
add_le {q} {r} {s} {t} h k =
    let f = four q r s t in
    let a = whole_le f.first f.second h in
    let b = whole_le f.third f.fourth k in
    le_of (add f.first f.third) (add f.second f.fourth) (omega (arith, ints))

pub add_nonneg : {q r : Ratio} → zero_ratio ⊑ q → zero_ratio ⊑ r → zero_ratio ⊑ ratio_add q r
add_nonneg h k = same_then (sym (ratio_add_zero zero_ratio)) (add_le h k)

-- a sum is at least its first part, where the other is not below 0
pub le_add : (q : Ratio) {r : Ratio} → zero_ratio ⊑ r → q ⊑ ratio_add q r
le_add q h = same_then (sym (ratio_add_zero q)) (add_le (le_refl q) h)

pub sub_nonneg : {q r : Ratio} → r ⊑ q → zero_ratio ⊑ ratio_sub q r
sub_nonneg {q} {r} h =
    let t = three q r r in
    let a = whole_le t.second t.first h in
    le_of (nil t.first) (sub t.first t.second) (omega (arith, ints))

-- ---- absolute values

pub abs_nonneg : (q : Ratio) → zero_ratio ⊑ ratio_abs q
abs_nonneg q = let h = over_itself q in le_of (nil h) (abs h) (omega (arith, ints))

pub abs_of_nonneg : {q : Ratio} → zero_ratio ⊑ q → ratio_abs q ≡ q
abs_of_nonneg {q} k = let h = over_itself q in let a = whole_le (nil h) h k in same_of (abs h) h (omega (arith, ints))

pub abs_add : (q r : Ratio) → ratio_abs (ratio_add q r) ⊑ ratio_add (ratio_abs q) (ratio_abs r)
abs_add q r = let t = three q r r in le_of (abs (add t.first t.second)) (add (abs t.first) (abs t.second)) (omega (arith, ints))

pub triangle : (q r s : Ratio) → ratio_abs (ratio_sub q s) ⊑ ratio_add (ratio_abs (ratio_sub q r)) (ratio_abs (ratio_sub r s))
triangle q r s =
    let t = three q r s in
    le_of (abs (sub t.first t.third)) (add (abs (sub t.first t.second)) (abs (sub t.second t.third))) (omega (arith, ints))

-- absolute values are no further apart than what they are of
pub abs_apart : (q r : Ratio) → ratio_abs (ratio_sub (ratio_abs q) (ratio_abs r)) ⊑ ratio_abs (ratio_sub q r)
abs_apart q r = let t = three q r r in le_of (abs (sub (abs t.first) (abs t.second))) (abs (sub t.first t.second)) (omega (arith, ints))

-- |u - v| where u is at most v
pub abs_of_lower : {u v : Ratio} → u ⊑ v → ratio_abs (ratio_sub u v) ≡ ratio_sub v u
abs_of_lower {u} {v} h =
    let t = three u v v in
    let le = whole_le t.first t.second h in
    same_of (abs (sub t.first t.second)) (sub t.second t.first) (omega (arith, ints))

-- two that aren't below 0 are no further apart than their sum
pub apart_le_sum : {q r : Ratio} → zero_ratio ⊑ q → zero_ratio ⊑ r → ratio_abs (ratio_sub q r) ⊑ ratio_add q r
apart_le_sum {q} {r} h k =
    let t = three q r r in
    let a = whole_le (nil t.first) t.first h in
    let b = whole_le (nil t.first) t.second k in
    le_of (abs (sub t.first t.second)) (add t.first t.second) (omega (arith, ints))

-- ---- products

pub mul_comm : (q r : Ratio) → ratio_mul q r ≡ ratio_mul r q
mul_comm q r = let t = three q r r in same_of (mul t.first t.second) (mul t.second t.first) (*ℤ_comm t.a t.b)

pub mul_abs : (q r : Ratio) → ratio_abs (ratio_mul q r) ≡ ratio_mul (ratio_abs q) (ratio_abs r)
mul_abs q r =
    let t = three q r r in
    same_of (abs (mul t.first t.second)) (mul (abs t.first) (abs t.second)) (ap pos (unsigned_abs-mul t.a t.b))

whole_mul_sub : (a b c : ℤ) → a *ℤ (b -ℤ c) ≡ a *ℤ b -ℤ a *ℤ c
whole_mul_sub a b c =
    let e : up (b -ℤ c) + down b + up c ≡ down (b -ℤ c) + up b + down c = omega (arith, ints) in
    omega (arith, ints, product_is a (b -ℤ c), product_is a b, product_is a c, ap (λ n. up a * n) e, ap (λ n. down a * n) e)

pub mul_sub : (q r s : Ratio) → ratio_mul q (ratio_sub r s) ≡ ratio_sub (ratio_mul q r) (ratio_mul q s)
mul_sub q r s =
    let t = three q r s in
    same_of (mul t.first (sub t.second t.third)) (sub (mul t.first t.second) (mul t.first t.third)) (whole_mul_sub t.a t.b t.c)

-- the difference of q * s and r * s
pub sub_mul : (q r s : Ratio) → ratio_sub (ratio_mul q s) (ratio_mul r s) ≡ ratio_mul (ratio_sub q r) s
sub_mul q r s = ap₂ ratio_sub (mul_comm q s) (mul_comm r s) ∙ sym (mul_sub s q r) ∙ mul_comm s (ratio_sub q r)

whole_mul_le : (a b c : ℤ) → pos 0 ≤ℤ a → b ≤ℤ c → (a *ℤ b) ≤ℤ (a *ℤ c)
whole_mul_le (pos k) b c h g =
    let e : up b + down c ≤ up c + down b = omega (arith, ints) in
    omega (arith, ints, mul-le-mul_left k e)
whole_mul_le (negsuc k) b c h g = absurd (omega (arith, ints, h))

pub mul_le : {q r s : Ratio} → zero_ratio ⊑ q → r ⊑ s → ratio_mul q r ⊑ ratio_mul q s
mul_le {q} {r} {s} h k =
    let t = three q r s in
    let a = whole_le (nil t.first) t.first h in
    let b = whole_le t.second t.third k in
    le_of (mul t.first t.second) (mul t.first t.third) (whole_mul_le t.a t.b t.c a b)

pub mul_nonneg : {q r : Ratio} → zero_ratio ⊑ q → zero_ratio ⊑ r → zero_ratio ⊑ ratio_mul q r
mul_nonneg {q} h k = same_then (sym (ratio_mul_zero q)) (mul_le h k)

-- q times what is at most 1
pub mul_le_one : {q r : Ratio} → zero_ratio ⊑ q → r ⊑ one_ratio → ratio_mul q r ⊑ q
mul_le_one {q} h k = le_then (mul_le h k) (ratio_mul_one q)
