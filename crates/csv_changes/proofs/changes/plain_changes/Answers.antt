use Rattle.csv_changes.specs.Changes.{changes_of}
use Rattle.csv_changes.proofs.changes.plain_changes.Goals as goal

pub returns : goal.returns
unfolding changes_of
returns c = rw c.new-records.ensures.left at c.changes.ensures
