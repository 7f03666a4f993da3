use Rattle.std.proofs.Common.{◌∙◌, ◌++◌, ap, ap₂, arith}
use Rattle.std.specs.List.{flat_map, range_with_len}
use Rattle.demo_input.specs.Demo.{neighbour, offset_lines, pair_lines}
use Rattle.demo_input.proofs.Growing.{BeginsWith-failed, OnErr-always, grown-range_more}
use Rattle.demo_input.proofs.edges.append_offset.Goals as goal

pub returns-in_err-append_pair-clause-err : goal.returns-in_err-append_pair-clause-err
returns-in_err-append_pair-clause-err c =
    OnErr-always c.from_residual.result
    (BeginsWith-failed _ _ c.loop-node.into.items _ c.loop-node.invariant c.in_err-append_pair.ensures.err)

pub loop-node-preserved : goal.loop-node-preserved
loop-node-preserved c =
    grown-range_more (λ i. pair_lines i (neighbour c.args.block c.args.offset i)) c.args.into.now.items c.from-first.result c.loop-node.node
    c.loop-node.into.items _ (omega arith) c.loop-node.invariant
    (c.in_ok-append_pair.ensures.ok ∙ ap (λ j. c.loop-node.into.items ++ pair_lines c.loop-node.node j) c.neighbour.ensures)

pub returns-clause-ok : goal.returns-clause-ok
unfolding offset_lines
returns-clause-ok c =
    c.loop-node.invariant
    ∙ ap (λ nodes. c.args.into.now.items ++ flat_map (λ i. pair_lines i (neighbour c.args.block c.args.offset i)) nodes)
    (ap₂ range_with_len c.from-first.ensures (omega arith))
