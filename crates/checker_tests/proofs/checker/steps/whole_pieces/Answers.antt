use Rattle.std.proofs.Common.{ap}
use Rattle.ratios.specs.Ratio.{Ratio, one_ratio, zero_ratio}
use Rattle.plan_model.specs.Limits.{is_run}
use Rattle.checker_tests.proofs.checker.steps.whole_pieces.Goals as goal

pub returns-clause-run : goal.returns-clause-run
unfolding one_ratio zero_ratio
returns-clause-run c = ap (λ (w : Ratio). is_run (record { weight = w; times = 3 })) c.one.ensures
