use Rattle.std.proofs.Common.{arith, ◌≡◌, ◌-ℤ◌, pos, neg_ℤ, ap, ap₂, ◌∙◌, w64, to_z, of_z}
use Rattle.std.proofs.lemmas.Int.{ints}
use Rattle.ratios.specs.Ratio.{ratio}
use Rattle.ratios.proofs.Parts.{parts_of, ratio-negative}
use Rattle.frac_core.proofs.Reducing.{inverse_fields}
use Rattle.frac_core.proofs.Frac.reciprocal.Goals as goal

pub invariant_of-result : goal.invariant_of-result
invariant_of-result c =
    let p = parts_of c.self.inside.num c.self.inside.den c.args.self c.self.invariant.0 c.self.view_is in
    inverse_fields c.args.self (to_z w64 (of_z w64 (pos 0 -ℤ to_z w64 c.self.inside.den))) c.unsigned_abs-den.result c.requires (omega (arith, ints)) (omega (arith, ints)) (omega (arith, ints)) (omega arith)

pub invariant_of-result-2 : goal.invariant_of-result-2
invariant_of-result-2 c =
    let p = parts_of c.self.inside.num c.self.inside.den c.args.self c.self.invariant.0 c.self.view_is in
    inverse_fields c.args.self (to_z w64 c.self.inside.den) c.unsigned_abs-den.result c.requires (omega (arith, ints)) (omega (arith, ints)) (omega (arith, ints)) (omega arith)

pub returns-then-self-lt0 : goal.returns-then-self-lt0
returns-then-self-lt0 c =
    let p = parts_of c.self.inside.num c.self.inside.den c.args.self c.self.invariant.0 c.self.view_is in
    let e : to_z w64 (of_z w64 (pos 0 -ℤ to_z w64 c.self.inside.den)) ≡ neg_ℤ (pos c.args.self.den) = omega (arith, ints) in
    ap (λ n. ratio n (pos c.unsigned_abs-den.result)) e ∙ ratio-negative (pos c.args.self.den) c.args.self.num c.unsigned_abs-den.result (omega (arith, ints)) (omega (arith, ints))

pub returns : goal.returns
returns c =
    let p = parts_of c.self.inside.num c.self.inside.den c.args.self c.self.invariant.0 c.self.view_is in
    let e : to_z w64 c.self.inside.den ≡ pos c.args.self.den = omega (arith, ints) in
    let f : pos c.unsigned_abs-den.result ≡ c.args.self.num = omega (arith, ints) in
    ap₂ ratio e f
