use Rattle.std.proofs.Common.{arith, pos}
use mir.Syntax.{w128}
use Rattle.std.proofs.lemmas.Int.{ints, quot_is, quot_fits}
use Rattle.frac_core.proofs.Reducing.{quotient_fits}
use Rattle.frac_core.proofs.divided.Goals as goal

pub nonzero_div-result : goal.nonzero_div-result
nonzero_div-result c = (omega arith, quotient_fits w128 c.args.n c.args.g c.ranges.n (omega (arith, ints)) c.requires.positive)

pub returns : goal.returns
returns c = quot_is w128 c.args.n (pos c.args.g) c.ranges.n (omega (arith, ints)) (quot_fits w128 c.args.n (pos c.args.g) c.ranges.n (omega (arith, ints)))
