use Rattle.std.proofs.Common.{arith, pos, sym, ap, ◌∙◌}
use Rattle.std.proofs.lemmas.Int.{ints}
use Rattle.ratios.specs.Ratio.{ratio}
use Rattle.ratios.specs.Code.{ratio-itself}
use Rattle.ratios.proofs.Parts.{parts_of}
use Rattle.frac_core.proofs.Frac.abs.Goals as goal

pub returns-then-self-lt0 : goal.returns-then-self-lt0
returns-then-self-lt0 c =
    let p = parts_of c.self.inside.num c.self.inside.den c.args.self c.self.invariant.0 c.self.view_is in
    c.neg.ensures ∙ ap (λ n. ratio n (pos c.args.self.den)) (omega (arith, ints))

pub returns-else-self-lt0 : goal.returns-else-self-lt0
returns-else-self-lt0 c =
    let p = parts_of c.self.inside.num c.self.inside.den c.args.self c.self.invariant.0 c.self.view_is in
    sym (ratio-itself c.args.self) ∙ ap (λ n. ratio n (pos c.args.self.den)) (omega (arith, ints))
