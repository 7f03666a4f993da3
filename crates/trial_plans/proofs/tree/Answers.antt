use Rattle.std.proofs.Common.{◌∙◌, ◌≡◌, ◌-◌, ap, arith}
use Rattle.trial_plans.specs.Texts.{tree_text}
use Rattle.trial_plans.proofs.tree.Goals as goal

pub returns : goal.returns
returns c =
    let all : c.loop.counter - 1 ≡ c.args.depth - 1 = omega arith in
    c.loop.invariant.0 ∙ ap tree_text all
