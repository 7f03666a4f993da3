-- What tests keep of graphs.
use Rattle.std.specs.Prelude.{◌≡◌, ℕ, ◌<◌, false, All, List, length, set}
use Rattle.plan_model.specs.Evaluation.{Family, dataset_at}
use Rattle.plan_model.specs.declared.source_types.SourceType.{SourceType}
use Rattle.weighted_set.specs.Changes.{AreChangesOf, applied}
use Rattle.weighted_set.specs.Held.{HeldDatasets}
-- a set without rows
pub use Rattle.weighted_set.specs.Parts.{empty_part as no_set}
use Rattle.flow_graph.specs.Fresh.{committed_family}
use Rattle.weighted_set.specs.declared.weighted.Change.{Change}
use Rattle.flow_graph.specs.Graphs.{StandsFor}
use Rattle.flow_graph.specs.Plans.{TurnsInto}
use Rattle.flow_graph.specs.declared.flow.FlowGraph.{FlowGraph}

-- nothing is pending in the sets
abbrev pub AreSettled : List HeldDatasets → Type 0
AreSettled sets = All (λ (set : HeldDatasets). set.pending ≡ set.committed) sets

-- the graph keeps its plan up to date on what the sets hold, which are of these types, and nothing is pending
pub record IsRunning (graph : FlowGraph) (types : List SourceType) (sets : List HeldDatasets) : Type 0 where
  pub of_types : graph.types ≡ types
  pub stands : StandsFor graph (committed_family sets)
  pub idle : graph.pending ≡ false
  pub settled : AreSettled sets

-- the family with the changes made to one source
abbrev pub put_at : Family → ℕ → List Change → Family
put_at F s changes = set F s (applied (dataset_at F s) changes)

-- the changes can be made to a source, whose rows keep their type
pub record MayPut (types : List SourceType) (sets : List HeldDatasets) (at : ℕ) (changes : List Change) : Type 0 where
  pub within : at < length sets
  pub can : AreChangesOf changes (dataset_at (committed_family sets) at)
  pub turns : TurnsInto types at changes (committed_family sets) (put_at (committed_family sets) at changes)
