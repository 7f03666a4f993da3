use Rattle.std.proofs.Common.{arith, ◌≡◌, ◌*ℤ◌, pos, ap₂, ◌∙◌, SFits, to_z, of_z}
use mir.Syntax.{w128}
use Rattle.std.proofs.lemmas.Int.{ints, to_z-of_z}
use Rattle.std.specs.Int.{int_div_euclid}
use Rattle.ratios.proofs.Parts.{parts_of}
use Rattle.frac_core.proofs.Frac.floor_units.Goals as goal

pub returns : goal.returns
returns c =
    let p = parts_of c.self.inside.num c.self.inside.den c.args.self c.self.invariant.0 c.self.view_is in
    let s : SFits w128 c.div_euclid.result = omega (arith, ints) in
    let e : to_z w128 (of_z w128 (to_z w128 (of_z w128 c.from.result) *ℤ pos 1048576)) ≡ c.args.self.num *ℤ pos 1048576 = omega (arith, ints) in
    let f : to_z w128 (of_z w128 c.from-2.result) ≡ pos c.args.self.den = omega (arith, ints) in
    to_z-of_z w128 c.div_euclid.result s ∙ c.div_euclid.ensures ∙ ap₂ int_div_euclid e f
