use Rattle.std.proofs.Common.{arith, ◌*◌, ◌≡◌, pos, ◌*ℤ◌, ap, ◌∙◌}
use Rattle.std.proofs.lemmas.Int.{ints}
use Rattle.std.proofs.lemmas.Nat.Gcd.{IsGcd-swap}
use Rattle.ratios.specs.Ratio.{IsReduced}
use Rattle.ratios.specs.Reduced.{one_coprime}
use Rattle.ratios.proofs.Parts.{ratio-num-reduced, ratio-den-reduced}
use Rattle.frac_core.proofs.Reducing.{checked_as}
use Rattle.frac_core.proofs.Frac.half.Goals as goal

half_reduced : IsReduced (pos 1) 2
half_reduced = (omega arith, IsGcd-swap 2 1 1 (one_coprime 2))

pub invariant_of-mul : goal.invariant_of-mul
invariant_of-mul c = (half_reduced, omega arith, omega arith)

pub returns : goal.returns
returns c =
    let q = c.args.self in
    let e : q.num *ℤ pos 1 ≡ q.num = omega (arith, ints) in
    let f : q.den * 2 ≡ 2 * q.den = omega arith in
    c.mul.ensures ∙ checked_as _ _ _ _ (ap (λ n. q.num *ℤ n) (ratio-num-reduced (pos 1) 2 half_reduced) ∙ e) (ap (λ d. q.den * d) (ratio-den-reduced (pos 1) 2 half_reduced) ∙ f)
