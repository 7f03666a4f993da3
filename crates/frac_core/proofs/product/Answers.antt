use Rattle.std.proofs.Common.{arith, ◌≡◌, ◌*◌, ◌*ℤ◌, pos, ap₂, ◌∙◌, SFits, to_z, of_z}
use mir.Syntax.{w128}
use Rattle.std.proofs.lemmas.Int.{ints, to_z-of_z}
use Rattle.ratios.specs.Ratio.{ratio}
use Rattle.ratios.proofs.Parts.{parts_of}
use Rattle.ratios.proofs.Crossing.{across, across_reduced, across_mul}
use Rattle.frac_core.proofs.Reducing.{reduced_as}
use Rattle.frac_core.proofs.product.Goals as goal
use Rattle.frac_core.proofs.product.Goals.{After-denominators-den}

first_is : (c : After-denominators-den) → c.reduce_small-first.result ≡ across c.args.a c.args.b
first_is c =
    let p = parts_of c.a.inside.num c.a.inside.den c.args.a c.a.invariant.0 c.a.view_is in
    let q = parts_of c.b.inside.num c.b.inside.den c.args.b c.b.invariant.0 c.b.view_is in
    c.reduce_small-first.ensures ∙ ap₂ (λ n d. ratio n (pos d)) (omega (arith, ints)) q.1

second_is : (c : After-denominators-den) → c.reduce_small-second.result ≡ across c.args.b c.args.a
second_is c =
    let p = parts_of c.a.inside.num c.a.inside.den c.args.a c.a.invariant.0 c.a.view_is in
    let q = parts_of c.b.inside.num c.b.inside.den c.args.b c.b.invariant.0 c.b.view_is in
    c.reduce_small-second.ensures ∙ ap₂ (λ n d. ratio n (pos d)) (omega (arith, ints)) p.1

num_is : (c : After-denominators-den) → to_z w128 (of_z w128 c.numerators-num.result) ≡ (across c.args.a c.args.b).num *ℤ (across c.args.b c.args.a).num
num_is c =
    let s : SFits w128 c.numerators-num.result = omega (arith, ints) in
    to_z-of_z w128 c.numerators-num.result s ∙ c.numerators-num.ensures ∙ ap₂ (λ q r. q.num *ℤ r.num) (first_is c) (second_is c)

den_is : (c : After-denominators-den) → c.denominators-den.result ≡ (across c.args.a c.args.b).den * (across c.args.b c.args.a).den
den_is c = c.denominators-den.ensures.value ∙ ap₂ (λ q r. q.den * r.den) (first_is c) (second_is c)

pub invariant_of-result : goal.invariant_of-result
invariant_of-result c =
    let a = (goal.at.invariant_of-result c).After-denominators-den in
    (reduced_as _ _ _ _ (num_is a) (den_is a) (across_reduced c.args.a c.args.b), omega arith)

pub returns : goal.returns
returns c =
    let a = (goal.at.returns c).After-denominators-den in
    ap₂ (λ n d. ratio n (pos d)) (num_is a) (den_is a) ∙ across_mul c.args.a c.args.b
