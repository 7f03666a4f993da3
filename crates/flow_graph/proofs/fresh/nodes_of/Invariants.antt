use Rattle.flow_graph.specs.Nodes.{node_standing}
use Rattle.flow_graph.proofs.Building.{AreBuilt}
use Rattle.flow_graph.proofs.fresh.nodes_of.Given as goal

abbrev pub invariant-loop-at : goal.invariant-loop-at
invariant-loop-at l = AreBuilt node_standing l.nodes.items l.columns.items l.plan l.types l.at
