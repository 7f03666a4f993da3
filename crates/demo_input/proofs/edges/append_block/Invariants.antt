use Rattle.std.proofs.Common.{◌≡◌, ◌++◌, ◌-◌, ◌≤◌}
use Rattle.std.specs.List.{flat_map, range_with_len}
use Rattle.demo_input.specs.Demo.{offset_lines}
use Rattle.demo_input.proofs.edges.append_block.Given as goal

abbrev pub invariant-loop-offset : goal.invariant-loop-offset
invariant-loop-offset l =
    (l.into.items ≡ l.initial.into.items ++ flat_map (offset_lines l.block) (range_with_len 1 (l.offset - 1)))
    × (l.offset - 1 ≤ l.block.offsets)
