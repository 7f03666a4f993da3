use Rattle.worked_plans.proofs.Computed.{group_weights, group_weights_after}
use Rattle.worked_plans.proofs.law_group.Goals as goal

pub returns-clause-before : goal.returns-clause-before
returns-clause-before c = group_weights

pub returns-clause-after : goal.returns-clause-after
returns-clause-after c = group_weights_after
