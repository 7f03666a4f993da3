use Rattle.std.proofs.Common.{◌≡◌, ◌++◌, take}
use Rattle.std.specs.List.{flat_map}
use Rattle.demo_input.specs.Demo.{block_lines, blocks_of}
use Rattle.demo_input.proofs.append_setup.Given as goal

abbrev pub invariant-loop-block : goal.invariant-loop-block
invariant-loop-block l =
    l.into.items ≡ l.initial.into.items ++ flat_map block_lines (take l.block-index (blocks_of l.n))
