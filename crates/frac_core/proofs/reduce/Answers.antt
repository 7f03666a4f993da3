use Rattle.std.proofs.Common.{arith, refl}
use mir.Syntax.{w128}
use Rattle.std.proofs.lemmas.Int.{ints, to_z-of_z}
use Rattle.frac_core.proofs.Reducing.{reduced_as}
use Rattle.frac_core.proofs.reduce.Goals as goal

pub within_range-requires : goal.within_range-requires
within_range-requires c =
    reduced_as _ c.lowest.inside.num _ c.lowest.inside.den (to_z-of_z w128 c.lowest.inside.num (omega (arith, ints))) refl c.lowest.invariant.0
