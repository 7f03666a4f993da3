-- What graphs of plans stand for, and what sets of sources hold.
pub use Rattle.flow_graph.specs.Fresh.{committed_family}
pub use Rattle.flow_graph.specs.Graphs.{StandsFor, StandsPending}
pub use Rattle.flow_graph.specs.Plans.{TurnsInto}
use Rattle.std.specs.Prelude.{◌≡◌, true, false, List, length, map, take}
use Rattle.plan_model.specs.Evaluation.{Family}
use Rattle.weighted_set.specs.Held.{HeldDatasets}
use Rattle.flow_graph.specs.declared.flow.FlowGraph.{FlowGraph}

-- the pending datasets of sets
abbrev pub pending_family : List HeldDatasets → Family
pending_family sets = map (λ (set : HeldDatasets). set.pending) sets

-- what belongs to the sources that a graph was built on, which are the first of all
abbrev pub first_of : {X : Type 0} → FlowGraph → List X → List X
first_of graph xs = take (length graph.types) xs

-- once what is pending in the graph is committed, it stands for the family
pub record Becomes (graph : FlowGraph) (F : Family) : Type 0 where
  pub pending : graph.pending ≡ true → StandsPending graph F
  pub idle : graph.pending ≡ false → StandsFor graph F
