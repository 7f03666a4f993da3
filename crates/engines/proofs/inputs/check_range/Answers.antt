use Rattle.engines.proofs.Pending.{range_more}
use Rattle.engines.proofs.inputs.check_range.Goals as goal

pub loop-change-preserved : goal.loop-change-preserved
loop-change-preserved c A h =
    range_more A c.args.changes.now c.loop-change.change-index c.change-item.result c.loop-change-test.true c.change-item.is c.numer-numerator.ensures.in_range (c.loop-change.invariant A h)
