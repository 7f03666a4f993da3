use Rattle.std.proofs.Common.{◌≡◌, map, take}
use Rattle.flow_graph.specs.Steps.{wire_of}
use Rattle.flow_graph.proofs.wires.wires_of.Given as goal

abbrev pub invariant-loop-at : goal.invariant-loop-at
invariant-loop-at l = l.wires.items ≡ map (wire_of l.types) (take l.at l.plan)
