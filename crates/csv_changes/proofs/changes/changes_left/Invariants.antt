use Rattle.std.proofs.Common.{◌≡◌, length}
use Rattle.json_fields.specs.Walk.{each}
use Rattle.json_fields.proofs.Members.{with_front}
use Rattle.csv_changes.specs.Changes.{changes_in, weighted_at}
use Rattle.csv_changes.proofs.changes.changes_left.Given as goal

abbrev pub invariant-loop-added : goal.invariant-loop-added
invariant-loop-added g l = record {
  reads : g.R.Records.reads l.records;
  read : with_front l.added.items (each (weighted_at l.kinds) (length l.added.items) (g.R.Records.progress l.records).left)
      ≡ changes_in l.kinds (g.R.Records.progress l.fn.records).left;
}

abbrev pub decreases-loop-added : goal.decreases-loop-added
decreases-loop-added g l = length (g.R.Records.progress l.records).left
