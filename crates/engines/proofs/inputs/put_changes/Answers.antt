use Rattle.std.proofs.Common.{ℕ, ◌∙◌, ap, arith, sym, subst}
use Rattle.std.proofs.lemmas.List.Sums.{sum_by-take-le, sum_by_more, sum_by_more_le}
use Rattle.engines.specs.Ticks.{size}
use Rattle.std.proofs.lemmas.Result.{err_from_is_err_and}
use Rattle.weighted_set.specs.declared.weighted.Change.{Change}
use Rattle.engines.specs.Products.{products_in_range}
use Rattle.engines.specs.Standing.{ArePartsOf}
use Rattle.weighted_set.specs.Parts.{pending_part}
use Rattle.engines.proofs.Pending.{applied_more}
use Rattle.engines.proofs.Products.{test_out, tests_more}
use Rattle.engines.proofs.Touched.{changed_more}
use Rattle.engines.proofs.inputs.put_changes.Goals as goal

pub loop-change-preserved : goal.loop-change-preserved
loop-change-preserved g c =
    let inv = c.loop-change.invariant in
    let now = c.in_ok-put_change.ensures in
    record {
      committed = λ k. now.committed k ∙ inv.committed k;
      pending = λ A h.
          let keys = g.O.PartOp.keys c.args.op.now c.args.side in
          subst (ArePartsOf keys (pending_part c.put_change.new.store)) (sym (applied_more A c.args.changes.now c.loop-change.change-index c.change-item.result c.loop-change-test.true c.change-item.is)) (now.pending _ (inv.pending A h));
      touched = λ k n. let more = now.touched k n in let before = inv.touched k more.0 in (before.0, more.1 ∙ before.1);
      noted = changed_more (g.O.PartOp.keys c.args.op.now c.args.side) c.args.touched.now.items c.loop-change.touched.items c.put_change.new.touched.items c.args.changes.now c.loop-change.change-index c.change-item.result c.loop-change-test.true c.change-item.is inv.noted now.noted;
      fits = tests_more (λ (d : Change). products_in_range d.new (g.O.PartOp.keys c.args.op.now c.args.side d.row).entries) c.args.changes.now c.loop-change.change-index c.change-item.result c.loop-change-test.true c.change-item.is inv.fits now.fits;
      ticks =
          let ticks_of : Change → ℕ = λ d. size (g.O.PartOp.keys c.args.op.now c.args.side d.row) in
          let before = inv.ticks in
          let here = now.ticks in
          let next = sum_by_more ticks_of c.args.changes.now c.loop-change.change-index c.change-item.result c.loop-change-test.true in
          let same = ap ticks_of c.change-item.is in
          omega (arith, before, here, next, same);
    }

pub returns-in_err-put_change-clause-range : goal.returns-in_err-put_change-clause-range
returns-in_err-put_change-clause-range g c =
    let p = err_from_is_err_and c.from_residual.result c.from_residual.ensures.1 in
    rw (p.1, p.2) (λ e.
    test_out (λ (d : Change). products_in_range d.new (g.O.PartOp.keys c.args.op.now c.args.side d.row).entries) c.args.changes.now c.loop-change.change-index c.change-item.result c.loop-change-test.true c.change-item.is (c.in_err-put_change.ensures.range e))

pub returns-in_err-put_change-clause-ticks : goal.returns-in_err-put_change-clause-ticks
returns-in_err-put_change-clause-ticks g c =
    let ticks_of : Change → ℕ = λ d. size (g.O.PartOp.keys c.args.op.now c.args.side d.row) in
    let before = c.loop-change.invariant.ticks in
    let here = c.in_err-put_change.ensures.ticks in
    let rest = sum_by_more_le ticks_of c.args.changes.now c.loop-change.change-index c.change-item.result c.loop-change-test.true in
    let same = ap ticks_of c.change-item.is in
    omega (arith, before, here, rest, same)

pub returns-clause-ticks : goal.returns-clause-ticks
returns-clause-ticks g c =
    let ticks_of : Change → ℕ = λ d. size (g.O.PartOp.keys c.args.op.now c.args.side d.row) in
    let before = c.loop-change.invariant.ticks in
    let rest = sum_by-take-le ticks_of c.args.changes.now c.loop-change.change-index in
    omega (arith, before, rest)
