use Rattle.std.proofs.Common.{arith, nat_eq, w64, of_z}
use Rattle.std.proofs.lemmas.Bool.{eqb-true, eqb-false}
use Rattle.std.proofs.lemmas.Int.{ints}
use Rattle.ratios.proofs.Parts.{parts_of}
use Rattle.ratios.proofs.Order.{parts_test_is}
use Rattle.frac_core.proofs.FracPartialEq.eq.Goals as goal

pub returns-then-self-other : goal.returns-then-self-other
returns-then-self-other c =
    let p = parts_of c.self.inside.num c.self.inside.den c.args.self.now c.self.invariant.0 c.self.view_is in
    let q = parts_of c.other.inside.num c.other.inside.den c.args.other.now c.other.invariant.0 c.other.view_is in
    parts_test_is c.args.self.now c.args.other.now (nat_eq c.self.inside.den c.other.inside.den)
    (λ h. (omega (arith, ints, eqb-true, eqb-false), omega (arith, ints, eqb-true, eqb-false)))
    (λ h n. omega (arith, ints, eqb-true, eqb-false))

pub returns-else-self-other : goal.returns-else-self-other
returns-else-self-other c =
    let p = parts_of c.self.inside.num c.self.inside.den c.args.self.now c.self.invariant.0 c.self.view_is in
    let q = parts_of c.other.inside.num c.other.inside.den c.args.other.now c.other.invariant.0 c.other.view_is in
    parts_test_is c.args.self.now c.args.other.now (nat_eq (of_z w64 c.self.inside.num) (of_z w64 c.other.inside.num))
    (λ h. absurd (omega (arith, eqb-true)))
    (λ h n. omega (arith, ints, eqb-true, eqb-false))
