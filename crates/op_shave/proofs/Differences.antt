-- Differences of ratios, and when they are above 0.
use Rattle.std.specs.Prelude.{◌≡◌, ℤ, ◌-ℤ◌, ◌<ℤ◌, ◌≤ℤ◌, pos, Bool, true, false, cond, int_lt, refl}
use Rattle.std.specs.Ordering.{is_lt}
use Rattle.std.specs.declared.cmp.Ordering.TheVariants.{Less, Equal, Greater}
use Rattle.std.proofs.Common.{arith, sym, ap, ◌∙◌}
use Rattle.std.proofs.lemmas.Int.{by_lt_z, ints}
use Rattle.ratios.specs.Ratio.{Ratio, is_below, ratio_add, ratio_sub, zero_ratio}
use Rattle.ratios.proofs.Order.{cmp_over, three}
use Rattle.ratios.proofs.Over.{over_add, over_as, over_itself, over_sub, same_over}
use Rattle.ratios.proofs.Parts.{over_zero}

pub ratio_sub_zero : (q : Ratio) → ratio_sub q zero_ratio ≡ q
ratio_sub_zero q =
    same_over q.num q.den _ _ (over_as _ _ _ _ (over_sub _ _ _ _ _ (over_itself q) (over_zero q.den q.positive)) (omega (arith, ints))) (over_itself q)

pub ratio_sub_add : (q r s : Ratio) → ratio_sub q (ratio_add r s) ≡ ratio_sub (ratio_sub q r) s
ratio_sub_add q r s =
    let t = three q r s in
    same_over _ t.d _ _ (over_sub _ _ _ _ _ t.first (over_add _ _ _ _ _ t.second t.third))
    (over_as _ _ _ _ (over_sub _ _ _ _ _ (over_sub _ _ _ _ _ t.first t.second) t.third) (omega (arith, ints)))

first_test : (s t : Bool) → is_lt (cond s Less (cond t Greater Equal)) ≡ s
first_test true t = refl
first_test false true = refl
first_test false false = refl

lt_true : (a b : ℤ) → a <ℤ b → true ≡ int_lt a b
lt_true a b h = omega (arith, ints)

lt_false : (a b : ℤ) → b ≤ℤ a → false ≡ int_lt a b
lt_false a b h = omega (arith, ints)

same_lt : (a b : ℤ) → int_lt (pos 0) (a -ℤ b) ≡ int_lt b a
same_lt a b =
    by_lt_z b a (λ h. sym (lt_true (pos 0) (a -ℤ b) (omega (arith, ints, h))) ∙ lt_true b a h) (λ h. sym (lt_false (pos 0) (a -ℤ b) (omega (arith, ints, h))) ∙ lt_false b a h)

-- w - f is above 0 just where f is below w
pub above_difference : (w f : Ratio) → is_below zero_ratio (ratio_sub w f) ≡ is_below f w
above_difference w f =
    let t = three w f f in
    ap is_lt (cmp_over (pos 0) (t.a -ℤ t.b) t.d zero_ratio (ratio_sub w f) (over_zero t.d t.first.some) (over_sub _ _ _ _ _ t.first t.second))
    ∙ first_test (int_lt (pos 0) (t.a -ℤ t.b)) (int_lt (t.a -ℤ t.b) (pos 0))
    ∙ same_lt t.a t.b
    ∙ sym (first_test (int_lt t.b t.a) (int_lt t.a t.b))
    ∙ sym (ap is_lt (cmp_over t.b t.a t.d f w t.second t.first))
