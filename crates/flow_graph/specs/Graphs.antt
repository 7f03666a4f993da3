-- What a graph that keeps a plan up to date stands for.
use Rattle.std.specs.Prelude.{◌≡◌, ℕ, ◌+◌, ◌≤◌, true, false, List, Some}
use Rattle.flow_graph.specs.Nodes.{node_standing}
use Rattle.plan_model.specs.Evaluation.{Family}
use Rattle.dataflow.specs.Wired.{AreAtRest}
use Rattle.plan_model.specs.Fits.{misfit}
use Rattle.plan_model.specs.declared.source_types.SourceType.{SourceType}
use Rattle.plan_model.specs.declared.step.Step.{Step}
use Rattle.weighted_set.specs.declared.weighted.Change.{Change}
use Rattle.flow_graph.specs.Plans.{PlanPends, PlanStands, TurnsInto}
use Rattle.flow_graph.specs.Work.{most_ticks}
use Rattle.flow_graph.specs.declared.flow.FlowGraph.{FlowGraph}

-- what the graph holds is what the family gives
pub record StandsFor (graph : FlowGraph) (F : Family) : Type 0 where
  pub plan : PlanStands node_standing graph.plan graph.types graph.nodes.items graph.out F
  pub at_rest : graph.pending ≡ false → AreAtRest node_standing graph.nodes.items graph.out

-- changes are pending, and what is pending is what the family gives
pub record StandsPending (graph : FlowGraph) (F : Family) : Type 0 where
  pub flag : graph.pending ≡ true
  pub plan : PlanPends node_standing graph.plan graph.types graph.nodes.items graph.out F

-- the graph stands for some family that these changes can be made to
abbrev pub GraphHasInputs : FlowGraph → ℕ → List Change → Type 0
GraphHasInputs graph source changes = (F : Family) × ((G : Family) × (StandsFor graph F × TurnsInto graph.types source changes F G))

-- whatever the changes make of the family, that is pending
abbrev pub GraphTurns : FlowGraph → FlowGraph → ℕ → List Change → Type 0
GraphTurns old new source changes = (F G : Family) → StandsFor old F → TurnsInto old.types source changes F G → StandsPending new G

-- whatever the changes make of the family, the step i is the first that doesn't fit
abbrev pub GraphMisfits : FlowGraph → ℕ → List Change → ℕ → Type 0
GraphMisfits graph source changes i = (F G : Family) → StandsFor graph F → TurnsInto graph.types source changes F G → misfit graph.plan graph.types G ≡ Some i

-- whatever the changes make of the family, the ticks are no more than the plan's work allows
abbrev pub GraphKeepsWork : FlowGraph → ℕ → List Change → ℕ → ℕ → Type 0
GraphKeepsWork graph source changes old new =
    (F G : Family) → StandsFor graph F → TurnsInto graph.types source changes F G → new ≤ old + most_ticks graph.plan graph.types F G

-- what the graph stood for it stands for
abbrev pub GraphKeeps : FlowGraph → FlowGraph → Type 0
GraphKeeps old new = (F : Family) → StandsFor old F → StandsFor new F

-- what was pending in the graph it stands for
abbrev pub GraphCommits : FlowGraph → FlowGraph → Type 0
GraphCommits old new = (F : Family) → StandsPending old F → StandsFor new F

-- it is the graph of the same plan on sources of the same types
abbrev pub IsSameGraph : FlowGraph → FlowGraph → Type 0
IsSameGraph old new = (new.plan ≡ old.plan) × (new.types ≡ old.types)

-- it is the graph of this plan on sources of these types
abbrev pub IsGraphOf : FlowGraph → List Step → List SourceType → Type 0
IsGraphOf graph plan types = (graph.plan ≡ plan) × (graph.types ≡ types)
