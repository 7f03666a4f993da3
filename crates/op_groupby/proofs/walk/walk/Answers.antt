-- One row more, which ties with the next one or ends its level.
use Rattle.std.proofs.Common.{◌∙◌, ap, ap₂, arith, drop, sym, ◌+◌}
use Rattle.std.proofs.lemmas.Result.{err_from_is_err_and}
use Rattle.level_walks.specs.Walks.{atom_gaps, with_halves}
use Rattle.op_groupby.specs.Group.{ordered}
use Rattle.op_groupby.specs.Taking.{answer, with_taken}
use Rattle.op_groupby.proofs.Steps.{walk_far, walk_more, walk_out, walk_tie}
use Rattle.op_groupby.proofs.walk.walk.Goals as goal

pub loop-at-preserved-then-is_tie : goal.loop-at-preserved-then-is_tie
loop-at-preserved-then-is_tie c =
    let l = c.loop-at in
    let r = c.args.reduce in
    let k = c.args.key.now in
    record {
      whole = l.invariant.whole
          ∙ walk_tie r k l.sums l.taken c.args.order.now l.at c.index-order-at.result (omega arith) c.index-order-at.is (sym c.is_tie.ensures ∙ c.if-is_tie.true)
          ∙ ap (λ t. with_halves k l.sums (atom_gaps (with_taken r) (answer r) t (drop (l.at + 1) (ordered c.args.order.now)))) (sym c.take.ensures.taken);
      small = omega (arith, l.invariant.small, c.take.ensures.small);
    }

pub returns-in_default-clause-range : goal.returns-in_default-clause-range
returns-in_default-clause-range c _ =
    let l = c.loop-at in
    l.invariant.whole
    ∙ walk_far c.args.reduce c.args.key.now l.sums l.taken c.args.order.now l.at c.index-order-at.result (omega arith) c.index-order-at.is (sym c.is_tie.ensures ∙ c.if-is_tie.false)
    (sym c.gap_above.ensures ∙ c.in_default.is)

pub returns-in_err-add_half-clause-range : goal.returns-in_err-add_half-clause-range
returns-in_err-add_half-clause-range c =
    let l = c.loop-at in
    let r = c.args.reduce in
    let p = err_from_is_err_and c.from_residual-in_err-add_half.result c.from_residual-in_err-add_half.ensures.1 in
    rw (p.1, p.2) (λ out.
    l.invariant.whole
    ∙ walk_out r c.args.key.now l.sums l.taken c.args.order.now l.at c.index-order-at.result (omega arith) c.index-order-at.is (sym c.is_tie.ensures ∙ c.if-is_tie.false)
    c.in_ok-atom.atom c.in-Some.gap (c.in_ok-atom.ensures ∙ ap (answer r) c.take.ensures.taken) (sym c.gap_above.ensures ∙ c.in-Some.is) (c.in_err-add_half.ensures.range out))

pub loop-at-preserved : goal.loop-at-preserved
loop-at-preserved c =
    let l = c.loop-at in
    let r = c.args.reduce in
    let k = c.args.key.now in
    record {
      whole = l.invariant.whole
          ∙ walk_more r k l.sums l.taken c.args.order.now l.at c.index-order-at.result (omega arith) c.index-order-at.is (sym c.is_tie.ensures ∙ c.if-is_tie.false)
          c.in_ok-atom.atom c.in-Some.gap (c.in_ok-atom.ensures ∙ ap (answer r) c.take.ensures.taken) (sym c.gap_above.ensures ∙ c.in-Some.is) c.in_ok-add_half.ensures.fits
          ∙ ap₂ (λ A t. with_halves k A (atom_gaps (with_taken r) (answer r) t (drop (l.at + 1) (ordered c.args.order.now)))) (sym c.in_ok-add_half.ensures.ok) (sym c.take.ensures.taken);
      small = omega (arith, l.invariant.small, c.take.ensures.small);
    }
