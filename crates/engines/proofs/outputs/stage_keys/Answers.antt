use Rattle.std.proofs.Common.{◌≡◌, ◌∙◌, ap, arith, true, take, sym, subst}
use Rattle.std.specs.Prelude.{List}
use Rattle.datasets.specs.Entries.{Row, has_row}
use Rattle.engines.specs.Staging.{AreOutputChanges, outputs_by}
use Rattle.weighted_set.specs.Parts.{committed_part, pending_part}
use Rattle.std.proofs.lemmas.List.{take_all}
use Rattle.std.proofs.lemmas.List.Sums.{sum_by-take-le, sum_by_more, sum_by_more_le}
use Rattle.engines.specs.Ticks.{key_ticks}
use Rattle.std.proofs.lemmas.Result.{err_from_is_err_and}
use Rattle.engines.proofs.Pending.{each_more, take_item}
use Rattle.engines.proofs.outputs.stage_keys.Goals as goal

pub loop-key-preserved : goal.loop-key-preserved
loop-key-preserved g c =
    let op = c.args.op.now in
    let left = c.args.left.now in
    let right = c.args.right.now in
    let keys = c.args.keys.now in
    let o = g.O.PartOp in
    let more = take_item keys c.loop-key.key-index c.key-item.result c.loop-key-test.true c.key-item.is in
    let P : List Row → Type 0 = λ done. AreOutputChanges (o.owner op) (outputs_by (o.outputs op) (committed_part left) (committed_part right)) (outputs_by (o.outputs op) (pending_part left) (pending_part right)) done c.stage_key.new.changes.items in
    record {
      staged = subst P (sym more) (c.in_ok-stage_key.ensures.staged _ c.loop-key.invariant.staged);
      fits = λ k h. each_more (λ k. o.part_fits op k (pending_part left k) (pending_part right k) ≡ true) (take c.loop-key.key-index keys) c.key-item.result c.loop-key.invariant.fits c.in_ok-stage_key.ensures.fits k (ap (λ ks. has_row ks k) (sym more) ∙ h);
      ticks =
          let before = c.loop-key.invariant.ticks in
          let here = c.in_ok-stage_key.ensures.ticks in
          let next = sum_by_more (key_ticks left right) keys c.loop-key.key-index c.key-item.result c.loop-key-test.true in
          let same = ap (key_ticks left right) c.key-item.is in
          omega (arith, before, here, next, same);
    }

pub returns-in_err-stage_key-clause-range : goal.returns-in_err-stage_key-clause-range
returns-in_err-stage_key-clause-range g c =
    let p = err_from_is_err_and c.from_residual-in_err-stage_key.result c.from_residual-in_err-stage_key.ensures.1 in
    rw (p.1, p.2) (λ e before. (c.key-item.result, c.in_err-stage_key.ensures.range e (before c.key-item.result)))

pub returns-clause-fits : goal.returns-clause-fits
returns-clause-fits g c k h = c.loop-key.invariant.fits k (ap (λ ks. has_row ks k) (take_all c.loop-key.key-index c.args.keys.now c.loop-key-test.false) ∙ h)

pub returns-in_err-stage_key-clause-ticks : goal.returns-in_err-stage_key-clause-ticks
returns-in_err-stage_key-clause-ticks g c =
    let left = c.args.left.now in
    let right = c.args.right.now in
    let keys = c.args.keys.now in
    let before = c.loop-key.invariant.ticks in
    let here = c.in_err-stage_key.ensures.ticks in
    let rest = sum_by_more_le (key_ticks left right) keys c.loop-key.key-index c.key-item.result c.loop-key-test.true in
    let same = ap (key_ticks left right) c.key-item.is in
    omega (arith, before, here, rest, same)

pub returns-clause-ticks : goal.returns-clause-ticks
returns-clause-ticks g c =
    let before = c.loop-key.invariant.ticks in
    let rest = sum_by-take-le (key_ticks c.args.left.now c.args.right.now) c.args.keys.now c.loop-key.key-index in
    omega (arith, before, rest)

pub returns-clause-staged : goal.returns-clause-staged
returns-clause-staged g c =
    let o = g.O.PartOp in
    let op = c.args.op.now in
    let before = outputs_by (o.outputs op) (committed_part c.args.left.now) (committed_part c.args.right.now) in
    let after = outputs_by (o.outputs op) (pending_part c.args.left.now) (pending_part c.args.right.now) in
    subst (λ done. AreOutputChanges (o.owner op) before after done c.sort_changes.new.changes.items) (take_all c.loop-key.key-index c.args.keys.now c.loop-key-test.false)
    (c.sort_changes.ensures (o.owner op) before after (take c.loop-key.key-index c.args.keys.now) c.loop-key.invariant.staged).0

pub returns-clause-rising : goal.returns-clause-rising
returns-clause-rising g c = (c.sort_changes.ensures _ _ _ _ c.loop-key.invariant.staged).1
