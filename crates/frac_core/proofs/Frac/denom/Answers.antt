use Rattle.std.proofs.Common.{arith}
use Rattle.std.proofs.lemmas.Int.{ints}
use Rattle.ratios.proofs.Parts.{parts_of}
use Rattle.ratios.proofs.Range.{InRange-from_bounds}
use Rattle.frac_core.proofs.Frac.denom.Goals as goal

pub returns-clause-value : goal.returns-clause-value
returns-clause-value c = omega (arith, ints, parts_of c.self.inside.num c.self.inside.den c.args.self c.self.invariant.0 c.self.view_is)

pub returns-clause-in_range : goal.returns-clause-in_range
returns-clause-in_range c =
    let p = parts_of c.self.inside.num c.self.inside.den c.args.self c.self.invariant.0 c.self.view_is in
    InRange-from_bounds c.args.self (omega (arith, ints)) (omega (arith, ints))
