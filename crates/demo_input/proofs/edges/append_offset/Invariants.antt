use Rattle.std.proofs.Common.{◌≡◌, ◌++◌, ◌-◌}
use Rattle.std.specs.List.{flat_map, range_with_len}
use Rattle.demo_input.specs.Demo.{neighbour, pair_lines}
use Rattle.demo_input.proofs.edges.append_offset.Given as goal

abbrev pub invariant-loop-node : goal.invariant-loop-node
invariant-loop-node l =
    l.into.items
    ≡ l.initial.into.items
    ++ flat_map (λ i. pair_lines i (neighbour l.block l.offset i)) (range_with_len l.first (l.node - l.first))
