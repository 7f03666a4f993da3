-- The greater and the less of two are those of std.
use Rattle.std.proofs.Common.{Some, ap, sym, ◌∙◌}
use Rattle.op_setwise.specs.Setwise.{checked_weight}
use Rattle.op_setwise.proofs.SetOutputs.{ord_max-ratio_max, ord_min-ratio_min}
use Rattle.op_setwise.proofs.set.combined.Goals as goal

pub returns-in-Union : goal.returns-in-Union
returns-in-Union c =
    ap Some (c.max.ensures ∙ ord_max-ratio_max c.args.left c.args.right) ∙ sym (ap (λ kind. checked_weight kind c.args.left c.args.right) c.in-Union.is)

pub returns-in-Intersect : goal.returns-in-Intersect
returns-in-Intersect c =
    ap Some (c.min.ensures ∙ ord_min-ratio_min c.args.left c.args.right) ∙ sym (ap (λ kind. checked_weight kind c.args.left c.args.right) c.in-Intersect.is)
