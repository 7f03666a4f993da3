use Rattle.std.proofs.Common.{◌≡◌, ◌+◌, ◌++◌, length}
use Rattle.weighted_set.specs.Changes.{entries_of}
use Rattle.weighted_set.specs.Held.{dataset_by, viewed_weight}
use Rattle.weighted_set.proofs.Sets.{entries_by}
use Rattle.weighted_set.proofs.held.read_rows.Given as goal

abbrev pub invariant-loop-row : goal.invariant-loop-row
invariant-loop-row g l =
    let f = viewed_weight l.view in
    record {
      so_far : entries_of l.into.items ++ entries_by f l.row-iterator ≡ (dataset_by f l.fn.table.entries).entries;
      ticks : l.steps + length (entries_by f l.row-iterator) ≡ l.fn.steps + length (dataset_by f l.fn.table.entries).entries;
    }
