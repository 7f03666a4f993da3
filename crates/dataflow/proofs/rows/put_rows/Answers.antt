use Rattle.std.proofs.Common.{◌∙◌, arith}
use Rattle.weighted_set.specs.Parts.{pending_part}
use Rattle.dataflow.proofs.RowsHeld.{HoldRows-more}
use Rattle.dataflow.proofs.rows.put_rows.Goals as goal

pub loop-change-preserved : goal.loop-change-preserved
loop-change-preserved g c =
    let inv = c.loop-change.invariant in
    record {
      committed = λ k. c.put_pending.ensures.committed k ∙ inv.committed k;
      pending = λ A h.
          HoldRows-more (pending_part c.loop-change.out) (pending_part c.put_pending.new.self) A c.args.changes.now c.loop-change.change-index c.change-item.result c.loop-change-test.true c.change-item.is c.in-Ok.ensures.ok (inv.pending A h);
      ticks = let t = c.put_pending.ensures.ticks in let u = inv.ticks in omega arith;
    }
