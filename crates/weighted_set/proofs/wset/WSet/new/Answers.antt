use Rattle.std.proofs.Common.{ap, ◌∙◌}
use Rattle.datasets.specs.Dataset.{dataset_of}
use Rattle.weighted_set.proofs.Sets.{dataset_of-none}
use Rattle.weighted_set.proofs.WeightSets.{new_are_weights}
use Rattle.weighted_set.proofs.wset.WSet.new.Goals as goal

pub invariant_of-result : goal.invariant_of-result
invariant_of-result c = new_are_weights c.new.result.entries c.new.ensures.empty

pub returns : goal.returns
returns c = ap dataset_of c.new.ensures.empty ∙ dataset_of-none
