use Rattle.std.proofs.Common.{◌≡◌, ℕ, ◌<◌, [], get_or, length, map}
use Rattle.dataflow.specs.Evaluation.{dataset_at}
use Rattle.datasets.specs.Dataset.{empty}
use Rattle.weighted_set.specs.Changes.{IsChangeList}
use Rattle.weighted_set.specs.Held.{AllInRange}
use Rattle.flow_graph.specs.Fresh.{committed_family}
use Rattle.flow_graph.proofs.rows.all_rows.Given as goal

abbrev pub invariant-loop-s : goal.invariant-loop-s
invariant-loop-s l = record {
  length : length l.lists.items ≡ l.s;
  each : (k : ℕ) → k < l.s → IsChangeList (get_or (map (λ x. x.items) l.lists.items) k []) empty (dataset_at (committed_family l.sources) k);
  in_range : (k : ℕ) → k < l.s → AllInRange (dataset_at (committed_family l.sources) k);
}
