use Rattle.std.proofs.Common.{arith, pos, ◌-ℤ◌, ap₂, w64, to_z, of_z}
use Rattle.std.proofs.lemmas.Int.{ints}
use Rattle.ratios.specs.Ratio.{ratio}
use Rattle.ratios.proofs.Parts.{parts_of}
use Rattle.frac_core.proofs.Reducing.{negated_fields}
use Rattle.frac_core.proofs.Frac.neg.Goals as goal

pub invariant_of-result : goal.invariant_of-result
invariant_of-result c =
    negated_fields c.self.inside.num (to_z w64 (of_z w64 (pos 0 -ℤ to_z w64 (of_z w64 c.self.inside.num)))) c.self.inside.den (omega (arith, ints)) c.self.invariant

pub returns : goal.returns
returns c =
    let p = parts_of c.self.inside.num c.self.inside.den c.args.self c.self.invariant.0 c.self.view_is in
    ap₂ (λ n d. ratio n (pos d)) (omega (arith, ints)) p.1
