use Rattle.std.proofs.lemmas.Result.{err_from_is_err_and}
use Rattle.weighted_set.specs.declared.part_op.Side.TheVariants.{Left, Right}
use Rattle.engines.specs.Engines.{meaning_of}
use Rattle.engines.proofs.Engine.{Laws, engine_step, fit_before, fits_after, held_after, misfits_after, misfits_put, rows_of_changes, taken_after, taken_before, ticks_after}
use Rattle.engines.proofs.WithinWork.{puts-within_work}
use Rattle.engines.proofs.keyed.stage.Given.{Over}
use Rattle.engines.proofs.keyed.stage.Goals as goal

laws : (g : Over) (op : g.row.O.Denot) → Laws (g.O.PartOp.keys op Left) (g.O.PartOp.keys op Right) (g.O.PartOp.owner op) (g.O.PartOp.outputs op) (g.O.PartOp.part_fits op) (meaning_of g.O.PartOp op) (g.O.PartOp.TakesPart op)
laws g op =
    let met = g.met.O.PartOp in
    record { together = met.together op; by_part = met.fits_by_part op; takes_parts = met.takes_parts op }

pub put_inputs-requires-clause-left_rows : goal.put_inputs-requires-clause-left_rows
put_inputs-requires-clause-left_rows g c =
    let op = c.args.op.now in
    let m = c.requires.1.1.1.1 in
    rows_of_changes (g.O.PartOp.TakesRow op Left) c.requires.0 c.requires.1.1.0 c.args.left.now (λ x. (g.met.O.PartOp.takes_rows op _ _ x m.takes_before).0) (λ x. (g.met.O.PartOp.takes_rows op _ _ x m.takes_after).0) m.left_changes

pub put_inputs-requires-clause-right_rows : goal.put_inputs-requires-clause-right_rows
put_inputs-requires-clause-right_rows g c =
    let op = c.args.op.now in
    let m = c.requires.1.1.1.1 in
    rows_of_changes (g.O.PartOp.TakesRow op Right) c.requires.1.0 c.requires.1.1.1.0 c.args.right.now (λ x. (g.met.O.PartOp.takes_rows op _ _ x m.takes_before).1) (λ x. (g.met.O.PartOp.takes_rows op _ _ x m.takes_after).1) m.right_changes

pub stage_keys-requires-clause-before : goal.stage_keys-requires-clause-before
stage_keys-requires-clause-before g c =
    let r = c.requires in
    taken_before (laws g c.args.op.now) c.in_ok-touched.ensures.put r.0 r.1.0 r.1.1.0 r.1.1.1.0 r.1.1.1.1

pub stage_keys-requires-clause-after : goal.stage_keys-requires-clause-after
stage_keys-requires-clause-after g c =
    let r = c.requires in
    taken_after (laws g c.args.op.now) c.in_ok-touched.ensures.put r.0 r.1.0 r.1.1.0 r.1.1.1.0 r.1.1.1.1

pub returns-in_err-touched-clause-range : goal.returns-in_err-touched-clause-range
returns-in_err-touched-clause-range g c =
    let p = err_from_is_err_and c.from_residual.result c.from_residual.ensures.1 in
    rw (p.1, p.2) (λ e A B C D m. misfits_put (laws g c.args.op.now) A B C D m (c.check_range.ensures A m.left_in_range) (c.check_range-2.ensures B m.right_in_range) (c.in_err-touched.ensures.range e))

pub returns-in_err-changes-clause-range : goal.returns-in_err-changes-clause-range
returns-in_err-changes-clause-range g c =
    let p = err_from_is_err_and c.from_residual-in_err-changes.result c.from_residual-in_err-changes.ensures.1 in
    rw (p.1, p.2) (λ e A B C D m.
    misfits_after (laws g c.args.op.now) c.in_ok-touched.ensures.put A B C D m (c.check_range.ensures A m.left_in_range) (c.check_range-2.ensures B m.right_in_range)
    (c.in_err-changes.ensures.range e (fit_before (laws g c.args.op.now) c.in_ok-touched.ensures.put A B C D m)))

pub returns-clause-ok : goal.returns-clause-ok
returns-clause-ok g c A B C D m =
    record {
      changes = engine_step (laws g c.args.op.now) c.in_ok-touched.ensures.put A B C D m c.in_ok-changes.changes.items c.as_slice.result.now c.as_slice.ensures.value c.in_ok-changes.ensures.staged c.in_ok-changes.ensures.rising;
      fits =
          fits_after (laws g c.args.op.now) c.in_ok-touched.ensures.put A B C D m (c.check_range.ensures A m.left_in_range) (c.check_range-2.ensures B m.right_in_range) c.as_slice.result.now c.as_slice.ensures.value c.in_ok-changes.ensures.fits;
      pending = held_after (laws g c.args.op.now) c.in_ok-touched.ensures.put A B C D m;
    }

-- ---- ticks, however far it comes
pub returns-in_err-touched-clause-work : goal.returns-in_err-touched-clause-work
returns-in_err-touched-clause-work g c A B C D m =
    let keys = g.O.PartOp.keys c.args.op.now in
    puts-within_work (keys Left) (keys Right) c.args.left.now c.args.right.now A B C D m.left_changes m.right_changes _ _ c.put_inputs.ensures.ticks

pub returns-in_err-changes-clause-work : goal.returns-in_err-changes-clause-work
returns-in_err-changes-clause-work g c A B C D m =
    ticks_after (laws g c.args.op.now) c.in_ok-touched.ensures.put A B C D m c.as_slice.result.now c.as_slice.ensures.value _ _ _ c.put_inputs.ensures.ticks c.stage_keys.ensures.ticks

pub returns-clause-work : goal.returns-clause-work
returns-clause-work g c A B C D m =
    ticks_after (laws g c.args.op.now) c.in_ok-touched.ensures.put A B C D m c.as_slice.result.now c.as_slice.ensures.value _ _ _ c.put_inputs.ensures.ticks c.stage_keys.ensures.ticks
