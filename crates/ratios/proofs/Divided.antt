-- Products that are divided, as the joint weights of a join are.
use Rattle.std.specs.Prelude.{ℕ, zero, suc, ◌<◌, ◌≡◌, ℤ, pos, negsuc, ◌*ℤ◌, refl}
use Rattle.std.proofs.Common.{sym, ap, ap₂, ◌∙◌, arith, mul-pos}
use Rattle.std.proofs.lemmas.Int.{ints}
use Rattle.ratios.specs.Ratio.{Ratio, ratio, ratio_abs, ratio_div, ratio_mul, ratio_sub, zero_ratio}
use Rattle.ratios.proofs.Field.{mul_abs, sub_mul}
use Rattle.ratios.proofs.Linear.{mul, nil, same_of, ◌⊑◌}
use Rattle.ratios.proofs.Order.{Three, three}
use Rattle.ratios.proofs.Over.{IsOver, over_scaled}
use Rattle.ratios.proofs.Products.{ratio_of_none, ratio_zero_mul}
use Rattle.ratios.proofs.Quotients.{div, div_by_zero, natural}

-- ---- 0 divided

whole_none : (d : ℕ) → pos 0 *ℤ pos d ≡ pos 0
whole_none d = omega (arith, ints)

none_over : (w : ℤ) → ratio (pos 0) w ≡ zero_ratio
unfolding ratio
none_over (pos n) = ratio_of_none n
none_over (negsuc n) = ratio_of_none (suc n)

pub zero_div : (s : Ratio) → ratio_div zero_ratio s ≡ zero_ratio
unfolding zero_ratio
zero_div s = ap (λ z. ratio z (s.num *ℤ pos 1)) (whole_none s.den) ∙ none_over (s.num *ℤ pos 1)

-- ---- products

-- a factor may be divided in place of the product
pub product_div : (q r : Ratio) {s : Ratio} → zero_ratio ⊑ s → ratio_div (ratio_mul q r) s ≡ ratio_mul (ratio_div q s) r
product_div q r {s} h = let k = natural h t.third in by_divisor k.n k.over
  where
    t : Three q r s
    t = three q r s

    by_divisor : (n : ℕ) → IsOver (pos n) t.d s → ratio_div (ratio_mul q r) s ≡ ratio_mul (ratio_div q s) r
    by_divisor zero o =
        let none : s ≡ zero_ratio = same_of o (nil o) refl in
        ap (ratio_div (ratio_mul q r)) none ∙ div_by_zero (ratio_mul q r) ∙ sym (ratio_zero_mul r) ∙ ap (λ p. ratio_mul p r) (sym (ap (ratio_div q) none ∙ div_by_zero q))
    by_divisor (suc n) o =
        let p : 0 < suc n = omega arith in
        same_of (div (mul-pos p o.some) (mul t.first t.second) (over_scaled (pos (suc n)) t.d t.d s o.some o)) (mul (div p t.first o) t.second) refl

-- how far two products by b are apart, once divided, is how far their factors are
pub products_apart : (q r b : Ratio) {s t : Ratio} → zero_ratio ⊑ s → zero_ratio ⊑ t →
    ratio_abs (ratio_sub (ratio_div (ratio_mul q b) s) (ratio_div (ratio_mul r b) t)) ≡ ratio_mul (ratio_abs (ratio_sub (ratio_div q s) (ratio_div r t))) (ratio_abs b)
products_apart q r b {s} {t} h k =
    ap₂ (λ x y. ratio_abs (ratio_sub x y)) (product_div q b h) (product_div r b k)
    ∙ ap ratio_abs (sub_mul (ratio_div q s) (ratio_div r t) b)
    ∙ mul_abs (ratio_sub (ratio_div q s) (ratio_div r t)) b
