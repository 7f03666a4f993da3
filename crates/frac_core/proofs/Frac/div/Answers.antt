use Rattle.std.proofs.Common.{◌∙◌, ap}
use Rattle.ratios.specs.Ratio.{ratio_mul}
use Rattle.ratios.specs.Range.{checked}
use Rattle.ratios.proofs.Crossing.{ratio_mul_inverse}
use Rattle.frac_core.proofs.Frac.div.Goals as goal

pub returns : goal.returns
returns c =
    c.mul.ensures ∙ ap (λ r. checked (ratio_mul c.args.self r)) c.reciprocal.ensures
    ∙ ap checked (ratio_mul_inverse c.args.self c.args.other c.requires)
