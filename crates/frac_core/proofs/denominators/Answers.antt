use Rattle.std.proofs.Common.{arith, ◌*◌, ap₂}
use Rattle.ratios.proofs.Parts.{parts_of}
use Rattle.frac_core.proofs.denominators.Goals as goal

pub returns-clause-value : goal.returns-clause-value
returns-clause-value c =
    let p = parts_of c.a.inside.num c.a.inside.den c.args.a c.a.invariant.0 c.a.view_is in
    let q = parts_of c.b.inside.num c.b.inside.den c.args.b c.b.invariant.0 c.b.view_is in
    ap₂ (λ x y. x * y) (omega arith) (omega arith)
