use Rattle.datasets.proofs.Weights.{at-empty, at-set_at, at-add_at, at-dataset_of}
use Rattle.datasets.proofs.law_weights.Goals as goal

pub returns : goal.returns
returns c = record { empty = at-empty; set = at-set_at; added = at-add_at; entries = at-dataset_of }
