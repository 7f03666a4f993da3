-- Where the next sum is out of range, and where it is in range.
use Rattle.std.proofs.Common.{◌+◌, Some, None, cond, ap, subst, sym, ◌∙◌}
use Rattle.ratios.specs.Ratio.{ratio_add}
use Rattle.ratios.specs.Sums.{ratio_sum}
use Rattle.ratios.proofs.Range.{checked_none, checked_some}
use Rattle.op_linear.specs.Summed.{weights_of}
use Rattle.op_linear.proofs.RunningSums.{IsSumAt, sum_more, sum_out}
use Rattle.op_linear.proofs.sums.sum_of.Goals as goal

pub returns-in_err-sum : goal.returns-in_err-sum
returns-in_err-sum c =
    let list = c.args.list.now in
    let e = c.entry-item.result in
    let out = checked_none (ratio_add c.loop-entry.sum e.weight) (sym c.add.ensures ∙ c.in_err-sum.was) in
    c.from_residual.ensures
    ∙ sym (ap (λ b. cond b (Some (ratio_sum (weights_of list))) None) (sum_out list c.loop-entry.entry-index c.loop-entry.sum c.loop-entry.invariant e c.loop-entry-test.true c.entry-item.is out))

pub loop-entry-preserved : goal.loop-entry-preserved
loop-entry-preserved c =
    let list = c.args.list.now in
    let e = c.entry-item.result in
    let sum = checked_some (ratio_add c.loop-entry.sum e.weight) c.in_ok-sum.sum (sym c.add.ensures ∙ c.in_ok-sum.was) in
    subst (IsSumAt (weights_of list) (c.loop-entry.entry-index + 1)) (sym sum.1)
    (sum_more list c.loop-entry.entry-index c.loop-entry.sum c.loop-entry.invariant e c.loop-entry-test.true c.entry-item.is sum.0)
