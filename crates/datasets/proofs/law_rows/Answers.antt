use Rattle.datasets.proofs.Counts.{set_at-same, length-set_at, entries-dataset_of}
use Rattle.datasets.proofs.law_rows.Goals as goal

pub returns : goal.returns
returns c = record { same = set_at-same; counts = length-set_at; rising_entries = entries-dataset_of }
