use Rattle.std.proofs.Common.{arith, ◌≡◌, ◌<◌, ◌/◌, ◌≤◌, pos, unsigned_abs, int_div, sym, ap, ◌∙◌, w64, SFits, to_z, of_z, div-le_self}
use Rattle.std.proofs.lemmas.Int.{ints, quot_is, quot_fits, to_z-of_z}
use Rattle.ratios.specs.Ratio.{ratio}
use Rattle.ratios.specs.Reduced.{unsigned_abs-int_div}
use Rattle.ratios.proofs.Parts.{ratio_as}
use Rattle.frac_core.proofs.Reducing.{gcd_bounds, ratio_divided, IsDividedBy, reduced_as, reduced_at_one, quotient_fits}
use Rattle.frac_core.proofs.reduce_small.Goals as goal
use Rattle.frac_core.proofs.reduce_small.Goals.{After-greatest_common_divisor-divisor}

bounds : (c : After-greatest_common_divisor-divisor) → (0 < c.greatest_common_divisor-divisor.result) × (c.greatest_common_divisor-divisor.result ≤ c.args.d)
bounds c = gcd_bounds c.unsigned_abs.result c.args.d c.greatest_common_divisor-divisor.result c.requires.positive c.greatest_common_divisor-divisor.ensures

parts : (c : After-greatest_common_divisor-divisor) → IsDividedBy c.args.n c.args.d c.greatest_common_divisor-divisor.result (ratio c.args.n (pos c.args.d))
parts c = ratio_divided c.args.n c.unsigned_abs.result c.args.d c.greatest_common_divisor-divisor.result c.requires.positive (omega (arith, ints)) c.greatest_common_divisor-divisor.ensures

divisor_fits : (c : After-greatest_common_divisor-divisor) → SFits w64 (pos c.greatest_common_divisor-divisor.result)
divisor_fits c = omega (arith, ints, bounds c)

num_is : (c : After-greatest_common_divisor-divisor) →
    to_z w64 (of_z w64 (int_div (to_z w64 (of_z w64 c.args.n)) (to_z w64 c.greatest_common_divisor-divisor.result))) ≡ (ratio c.args.n (pos c.args.d)).num
num_is c = quot_is w64 c.args.n (pos c.greatest_common_divisor-divisor.result) c.ranges.n (divisor_fits c)
    (quot_fits w64 c.args.n (pos c.greatest_common_divisor-divisor.result) c.ranges.n (omega (arith, ints, bounds c)))
    ∙ sym (parts c).num_is

pub overflow_cast-num : goal.overflow_cast-num
overflow_cast-num c = divisor_fits (goal.at.overflow_cast-num c).After-greatest_common_divisor-divisor

pub nonzero_div-num : goal.nonzero_div-num
nonzero_div-num c =
    let a = (goal.at.nonzero_div-num c).After-greatest_common_divisor-divisor in
    ((bounds a).0, quotient_fits w64 c.args.n c.greatest_common_divisor-divisor.result c.ranges.n (divisor_fits a) (bounds a).0)

pub nonzero_div-den : goal.nonzero_div-den
nonzero_div-den c = (bounds (goal.at.nonzero_div-den c).After-greatest_common_divisor-divisor).0

pub invariant_of-result : goal.invariant_of-result
invariant_of-result c =
    let h = reduced_at_one c.args.n c.unsigned_abs.result c.args.d c.greatest_common_divisor-divisor.result c.requires.positive (omega (arith, ints)) c.greatest_common_divisor-divisor.ensures c.if-divisor-eq1.true in
    rw (to_z-of_z w64 c.args.n c.ranges.n) (h, c.requires.small_n, c.requires.small_d)

pub returns-then-divisor-eq1 : goal.returns-then-divisor-eq1
returns-then-divisor-eq1 c = ap (λ n. ratio n (pos c.args.d)) (to_z-of_z w64 c.args.n c.ranges.n)

pub invariant_of-result-2 : goal.invariant_of-result-2
invariant_of-result-2 c =
    let a = (goal.at.invariant_of-result-2 c).After-greatest_common_divisor-divisor in
    let q = ratio c.args.n (pos c.args.d) in
    let g = c.greatest_common_divisor-divisor.result in
    let e = ap unsigned_abs ((num_is a) ∙ (parts a).num_is) ∙ unsigned_abs-int_div c.args.n g in
    (reduced_as _ q.num (c.args.d / g) q.den (num_is a) (sym (parts a).den_is) (q.positive, q.coprime), omega (arith, e, div-le_self (unsigned_abs c.args.n) g), omega (arith, div-le_self c.args.d g))

pub returns : goal.returns
returns c =
    let a = (goal.at.returns c).After-greatest_common_divisor-divisor in
    ratio_as (ratio c.args.n (pos c.args.d)) _ (c.args.d / c.greatest_common_divisor-divisor.result) (num_is a) (sym (parts a).den_is)
