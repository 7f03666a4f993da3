use Rattle.std.proofs.Common.{arith, neg_ℤ, refl, ap, ◌∙◌}
use Rattle.std.proofs.lemmas.Int.{ints}
use Rattle.ratios.specs.Range.{checked}
use Rattle.ratios.proofs.Parts.{ratio-negative}
use Rattle.frac_core.proofs.Reducing.{checked_as}
use Rattle.frac_core.proofs.reduce_signed.Goals as goal

pub returns-then-d-lt0 : goal.returns-then-d-lt0
returns-then-d-lt0 c =
    c.reduce.ensures ∙ checked_as _ (neg_ℤ c.args.n) _ c.unsigned_abs.result (omega (arith, ints)) refl
    ∙ ap checked (ratio-negative c.args.n c.args.d c.unsigned_abs.result (omega (arith, ints)) (omega (arith, ints)))
