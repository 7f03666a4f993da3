use Rattle.std.proofs.Common.{arith}
use Rattle.std.proofs.lemmas.Int.{ints}
use Rattle.ratios.proofs.Parts.{parts_of}
use Rattle.frac_core.proofs.Reducing.{product_exact}
use Rattle.frac_core.proofs.numerators.Goals as goal

pub returns : goal.returns
returns c =
    let p = parts_of c.a.inside.num c.a.inside.den c.args.a c.a.invariant.0 c.a.view_is in
    let q = parts_of c.b.inside.num c.b.inside.den c.args.b c.b.invariant.0 c.b.view_is in
    product_exact c.from.result c.from-2.result c.args.a.num c.args.b.num (omega (arith, ints)) (omega (arith, ints)) (omega (arith, ints)) (omega (arith, ints))
