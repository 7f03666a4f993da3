use Rattle.std.proofs.Common.{arith}
use Rattle.std.specs.Prelude.{pos, ◌*ℤ◌}
use Rattle.std.proofs.lemmas.Int.{ints}
use Rattle.session_core.proofs.Units.{quotient_within}
use Rattle.session_core.proofs.measure.released_with.Goals as goal

pub overflow_add-result : goal.overflow_add-result
overflow_add-result c =
    let z = c.args.weight.num *ℤ pos 1048576 in
    let b = quotient_within z c.args.weight.den 19342813113834066795298816 (omega (arith, ints)) (omega (arith, ints)) in
    omega (arith, ints, c.floor_units.ensures, b.0, b.1)
