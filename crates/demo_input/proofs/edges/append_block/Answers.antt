use Rattle.std.proofs.Common.{◌∙◌, ◌++◌, ap, arith}
use Rattle.std.specs.List.{flat_map, range_with_len}
use Rattle.demo_input.specs.Demo.{block_lines, offset_lines}
use Rattle.demo_input.proofs.Growing.{BeginsWith-failed, OnErr-always, grown-range_more}
use Rattle.demo_input.proofs.edges.append_block.Goals as goal

pub returns-in_err-append_offset-clause-err : goal.returns-in_err-append_offset-clause-err
returns-in_err-append_offset-clause-err c =
    OnErr-always c.from_residual.result
    (BeginsWith-failed _ _ c.loop-offset.into.items _ c.loop-offset.invariant.0 c.in_err-append_offset.ensures.err)

pub loop-offset-preserved : goal.loop-offset-preserved
loop-offset-preserved c = (
  grown-range_more (offset_lines c.args.block) c.args.into.now.items 1 c.loop-offset.offset c.loop-offset.into.items _
      (omega arith) c.loop-offset.invariant.0 c.in_ok-append_offset.ensures.ok,
  omega arith,
)

pub returns-clause-ok : goal.returns-clause-ok
unfolding block_lines
returns-clause-ok c =
    c.loop-offset.invariant.0
    ∙ ap (λ count. c.args.into.now.items ++ flat_map (offset_lines c.args.block) (range_with_len 1 count)) (omega arith)

pub returns-in_ok-append_offset-clause-ok : goal.returns-in_ok-append_offset-clause-ok
unfolding block_lines
returns-in_ok-append_offset-clause-ok c =
    grown-range_more (offset_lines c.args.block) c.args.into.now.items 1 c.loop-offset.offset c.loop-offset.into.items _
    (omega arith) c.loop-offset.invariant.0 c.in_ok-append_offset.ensures.ok
    ∙ ap (λ count. c.args.into.now.items ++ flat_map (offset_lines c.args.block) (range_with_len 1 count)) (omega arith)
