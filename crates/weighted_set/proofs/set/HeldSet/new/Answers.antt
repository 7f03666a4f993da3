use Rattle.std.proofs.Common.{ap, ◌∙◌}
use Rattle.weighted_set.specs.Held.{committed_of, pending_of}
use Rattle.weighted_set.proofs.Sets.{dataset_of-none, new_is_set}
use Rattle.weighted_set.proofs.set.HeldSet.new.Goals as goal

pub invariant_of-result : goal.invariant_of-result
invariant_of-result c =
    (new_is_set c.new.result.entries c.new-2.result.items c.new.ensures.empty c.new-2.ensures.items, λ none. c.new-2.ensures.capacity)

pub returns-clause-committed : goal.returns-clause-committed
returns-clause-committed c = ap committed_of c.new.ensures.empty ∙ dataset_of-none

pub returns-clause-pending : goal.returns-clause-pending
returns-clause-pending c = ap pending_of c.new.ensures.empty ∙ dataset_of-none
