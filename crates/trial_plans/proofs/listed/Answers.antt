use Rattle.std.proofs.Common.{◌∙◌, ◌≡◌, ◌-◌, ap, arith}
use Rattle.trial_plans.specs.Texts.{followed}
use Rattle.trial_plans.proofs.listed.Goals as goal

pub returns : goal.returns
returns c =
    let all : c.loop.counter - 1 ≡ c.args.times - 1 = omega arith in
    c.loop.invariant.0 ∙ ap (λ n. followed n c.args.text.now) all
