use Rattle.std.proofs.Common.{arith, ◌≡◌, ◌<◌, ◌/◌, ◌≤◌, pos, sym, ap, ◌∙◌, SFits, to_z, of_z, div-le_self}
use mir.Syntax.{w128}
use Rattle.std.proofs.lemmas.Int.{ints, to_z-of_z}
use Rattle.ratios.specs.Ratio.{ratio}
use Rattle.ratios.proofs.Parts.{ratio_as}
use Rattle.frac_core.proofs.Reducing.{gcd_bounds, ratio_divided, reduced_as, reduced_at_one}
use Rattle.frac_core.proofs.lowest.Goals as goal
use Rattle.frac_core.proofs.lowest.Goals.{After-wide_greatest_common_divisor-divisor, After-divided-num}

bounds : (c : After-wide_greatest_common_divisor-divisor) → (0 < c.wide_greatest_common_divisor-divisor.result) × (c.wide_greatest_common_divisor-divisor.result ≤ c.args.d)
bounds c = gcd_bounds c.unsigned_abs.result c.args.d c.wide_greatest_common_divisor-divisor.result c.requires.positive c.wide_greatest_common_divisor-divisor.ensures

num_is : (c : After-divided-num) → to_z w128 (of_z w128 c.divided-num.result) ≡ (ratio c.args.n (pos c.args.d)).num
num_is c =
    let p = ratio_divided c.args.n c.unsigned_abs.result c.args.d c.wide_greatest_common_divisor-divisor.result c.requires.positive (omega (arith, ints)) c.wide_greatest_common_divisor-divisor.ensures in
    let s : SFits w128 c.divided-num.result = omega (arith, ints) in
    to_z-of_z w128 c.divided-num.result s ∙ (rw (to_z-of_z w128 c.args.n c.ranges.n) at c.divided-num.ensures) ∙ sym p.num_is

den_is : (c : After-divided-num) → c.args.d / c.wide_greatest_common_divisor-divisor.result ≡ (ratio c.args.n (pos c.args.d)).den
den_is c =
    sym (ratio_divided c.args.n c.unsigned_abs.result c.args.d c.wide_greatest_common_divisor-divisor.result c.requires.positive (omega (arith, ints)) c.wide_greatest_common_divisor-divisor.ensures).den_is

pub divided-num-requires-clause-positive : goal.divided-num-requires-clause-positive
divided-num-requires-clause-positive c = (bounds (goal.at.divided-num-requires-clause-positive c).After-wide_greatest_common_divisor-divisor).0

pub divided-num-requires-clause-small : goal.divided-num-requires-clause-small
divided-num-requires-clause-small c = omega (arith, bounds (goal.at.divided-num-requires-clause-small c).After-wide_greatest_common_divisor-divisor)

pub nonzero_div-den : goal.nonzero_div-den
nonzero_div-den c = (bounds (goal.at.nonzero_div-den c).After-wide_greatest_common_divisor-divisor).0

pub invariant_of-result : goal.invariant_of-result
invariant_of-result c =
    let h = reduced_at_one c.args.n c.unsigned_abs.result c.args.d c.wide_greatest_common_divisor-divisor.result c.requires.positive (omega (arith, ints)) c.wide_greatest_common_divisor-divisor.ensures c.if-divisor-eq1.true in
    rw (to_z-of_z w128 c.args.n c.ranges.n) (h, c.requires.small)

pub returns-then-divisor-eq1 : goal.returns-then-divisor-eq1
returns-then-divisor-eq1 c = ap (λ n. ratio n (pos c.args.d)) (to_z-of_z w128 c.args.n c.ranges.n)

pub invariant_of-result-2 : goal.invariant_of-result-2
invariant_of-result-2 c =
    let a = (goal.at.invariant_of-result-2 c).After-divided-num in
    let q = ratio c.args.n (pos c.args.d) in
    let g = c.wide_greatest_common_divisor-divisor.result in
    (reduced_as _ q.num _ q.den (num_is a) (den_is a) (q.positive, q.coprime), omega (arith, div-le_self c.args.d g))

pub returns : goal.returns
returns c =
    let a = (goal.at.returns c).After-divided-num in
    ratio_as (ratio c.args.n (pos c.args.d)) (to_z w128 (of_z w128 c.divided-num.result)) (c.args.d / c.wide_greatest_common_divisor-divisor.result) (num_is a) (den_is a)
