use Rattle.std.proofs.Common.{◌∙◌, ◌++◌, ap}
use Rattle.std.proofs.lemmas.List.{take_all}
use Rattle.std.specs.List.{flat_map}
use Rattle.demo_input.specs.Demo.{block_lines, blocks_of, degrees_line, demo_setup, line, paths_line, source_line}
use Rattle.demo_input.proofs.Growing.{BeginsWith-failed, OnErr-always, appended-twice}
use Rattle.demo_input.proofs.append_setup.Goals as goal

pub returns-in_err-append_block-clause-err : goal.returns-in_err-append_block-clause-err
returns-in_err-append_block-clause-err c =
    OnErr-always c.from_residual-in_err-append_block.result
    (BeginsWith-failed c.args.into.now.items _ c.extend_from_slice.new.self.items _ c.in_ok-extend_from_slice.ensures.items
    (BeginsWith-failed c.extend_from_slice.new.self.items _ c.loop-block.into.items _ c.loop-block.invariant c.in_err-append_block.ensures.err))

pub returns-clause-ok : goal.returns-clause-ok
unfolding demo_setup source_line degrees_line paths_line line
returns-clause-ok c =
    appended-twice c.args.into.now.items (source_line ++ degrees_line ++ paths_line) (flat_map block_lines (blocks_of c.args.n))
    c.extend_from_slice.new.self.items c.loop-block.into.items
    (c.in_ok-extend_from_slice.ensures.items ∙ ap (λ text. c.args.into.now.items ++ text) c.as_bytes.ensures.value)
    (c.loop-block.invariant
    ∙ ap (λ blocks. c.extend_from_slice.new.self.items ++ flat_map block_lines blocks) (take_all c.loop-block.block-index (blocks_of c.args.n) c.loop-block-test.false))
