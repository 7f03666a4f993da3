use Rattle.datasets.proofs.Equality.{same_weights, dataset_of-entries}
use Rattle.datasets.proofs.law_equality.Goals as goal

pub returns : goal.returns
returns c = record { same_weights = same_weights; entries = dataset_of-entries }
