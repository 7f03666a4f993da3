use Rattle.std.proofs.Common.{arith, ◌≡◌, ◌*◌, ◌*ℤ◌, pos, ap, ap₂, sym, ◌∙◌, to_z, of_z}
use mir.Syntax.{w128}
use Rattle.std.proofs.lemmas.Int.{ints, to_z-of_z}
use Rattle.ratios.specs.Ratio.{Ratio, IsReduced, ratio, ratio_mul, ratio_div}
use Rattle.ratios.specs.Range.{checked}
use Rattle.ratios.proofs.Crossing.{across, across_mul, across_reduced, ratio_mul_inverse}
use Rattle.ratios.proofs.Parts.{parts_of}
use Rattle.ratios.proofs.Range.{checked-out}
use Rattle.frac_core.proofs.Reducing.{checked_as, den_too_wide, num_too_wide, reduced_as}
use Rattle.frac_core.proofs.Frac.mul_div.Goals as goal
use Rattle.frac_core.proofs.Frac.mul_div.Goals.{After-checked_mul}

-- the product over the divisor's numerator, and the divisor's denominator over that of the product
first : After-checked_mul → Ratio
first c = across c.product-product.result c.reciprocal-inverse.result

second : After-checked_mul → Ratio
second c = across c.reciprocal-inverse.result c.product-product.result

first_is : (c : After-checked_mul) → c.lowest-first.result ≡ first c
unfolding first
first_is c =
    let p = parts_of c.product.inside.num c.product.inside.den c.product-product.result c.product.invariant.0 c.product.view_is in
    let i = parts_of c.inverse.inside.num c.inverse.inside.den c.reciprocal-inverse.result c.inverse.invariant.0 c.inverse.view_is in
    let num : to_z w128 (of_z w128 c.product.inside.num) ≡ c.product-product.result.num = to_z-of_z w128 c.product.inside.num (omega (arith, ints)) ∙ p.0 in
    c.lowest-first.ensures ∙ ap₂ (λ n d. ratio n (pos d)) num (omega (arith, i.1))

second_is : (c : After-checked_mul) → c.lowest-second.result ≡ second c
unfolding second
second_is c =
    let p = parts_of c.product.inside.num c.product.inside.den c.product-product.result c.product.invariant.0 c.product.view_is in
    let i = parts_of c.inverse.inside.num c.inverse.inside.den c.reciprocal-inverse.result c.inverse.invariant.0 c.inverse.view_is in
    c.lowest-second.ensures ∙ ap₂ (λ n d. ratio n (pos d)) (omega (arith, ints, i.0)) p.1

num_is : (c : After-checked_mul) → to_z w128 (of_z w128 c.first.inside.num) *ℤ to_z w128 (of_z w128 c.second.inside.num) ≡ (first c).num *ℤ (second c).num
num_is c =
    let p = parts_of c.first.inside.num c.first.inside.den c.lowest-first.result c.first.invariant.0 c.first.view_is in
    let q = parts_of c.second.inside.num c.second.inside.den c.lowest-second.result c.second.invariant.0 c.second.view_is in
    ap₂ (λ m n. m *ℤ n)
    (to_z-of_z w128 c.first.inside.num (omega (arith, ints)) ∙ p.0 ∙ ap (λ (r : Ratio). r.num) (first_is c))
    (to_z-of_z w128 c.second.inside.num (omega (arith, ints)) ∙ q.0 ∙ ap (λ (r : Ratio). r.num) (second_is c))

den_is : (c : After-checked_mul) → c.first.inside.den * c.second.inside.den ≡ (first c).den * (second c).den
den_is c =
    let p = parts_of c.first.inside.num c.first.inside.den c.lowest-first.result c.first.invariant.0 c.first.view_is in
    let q = parts_of c.second.inside.num c.second.inside.den c.lowest-second.result c.second.invariant.0 c.second.view_is in
    ap₂ (λ m n. m * n) (p.1 ∙ ap (λ (r : Ratio). r.den) (first_is c)) (q.1 ∙ ap (λ (r : Ratio). r.den) (second_is c))

-- what the two come to, which is reduced
reduced : (c : After-checked_mul) → IsReduced ((first c).num *ℤ (second c).num) ((first c).den * (second c).den)
unfolding first second
reduced c = across_reduced c.product-product.result c.reciprocal-inverse.result

value_is : (c : After-checked_mul) → ratio_mul (first c) (second c) ≡ ratio_div (ratio_mul c.args.self c.args.by) c.args.over
unfolding first second
value_is c =
    across_mul c.product-product.result c.reciprocal-inverse.result ∙ ap₂ ratio_mul c.product-product.ensures c.reciprocal-inverse.ensures
    ∙ ratio_mul_inverse (ratio_mul c.args.self c.args.by) c.args.over c.requires

pub returns-in_err-num : goal.returns-in_err-num
returns-in_err-num c =
    let a = (goal.at.returns-in_err-num c).After-checked_mul in
    let wide = rw (num_is a) at c.in_err-num.ensures in
    c.from_residual.ensures ∙ sym (checked-out _ (num_too_wide _ _ (reduced a) wide)) ∙ ap checked (value_is a)

pub returns-in_err-den : goal.returns-in_err-den
returns-in_err-den c =
    let a = (goal.at.returns-in_err-den c).After-checked_mul in
    let wide = rw (den_is a) at c.in_err-den.ensures in
    c.from_residual-in_err-den.ensures ∙ sym (checked-out _ (den_too_wide _ _ (reduced a) wide)) ∙ ap checked (value_is a)

pub within_range-requires : goal.within_range-requires
within_range-requires c =
    let a = (goal.at.within_range-requires c).After-checked_mul in
    let num = c.in_ok-num.ensures.1 in
    let small = to_z-of_z w128 c.in_ok-num.num (rw (← num) at c.in_ok-num.ensures.0) in
    reduced_as _ _ _ _ (small ∙ num ∙ num_is a) (c.in_ok-den.ensures.1 ∙ den_is a) (reduced a)

pub returns : goal.returns
returns c =
    let a = (goal.at.returns c).After-checked_mul in
    let num = c.in_ok-num.ensures.1 in
    let small = to_z-of_z w128 c.in_ok-num.num (rw (← num) at c.in_ok-num.ensures.0) in
    c.within_range.ensures ∙ checked_as _ _ _ _ (small ∙ num ∙ num_is a) (c.in_ok-den.ensures.1 ∙ den_is a) ∙ ap checked (value_is a)
