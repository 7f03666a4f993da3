-- The sum goes on while it is in range, and there is none where it is not.
use Rattle.std.proofs.Common.{◌+◌, ap, drop, sym, ◌∙◌}
use Rattle.ratios.specs.Range.{checked}
use Rattle.ratios.specs.Ratio.{ratio_abs, ratio_add}
use Rattle.weighted_set.proofs.WeightSets.{sum_from, sum_goes_on, sum_stops}
use Rattle.op_join.proofs.NormSums.{norm-listed, sizes, sizes_end, sizes_from}
use Rattle.op_join.proofs.norms.part_norm.Goals as goal

pub loop-entry-init : goal.loop-entry-init
loop-entry-init c = ap (λ s. sum_from s (sizes c.args.part.now)) (sym c.zero-sum.ensures)

pub loop-entry-preserved : goal.loop-entry-preserved
loop-entry-preserved c =
    let part = c.args.part.now in
    let i = c.loop-entry.entry-index in
    let s = c.loop-entry.sum in
    let e = c.entry-item.result in
    c.loop-entry.invariant
    ∙ ap (sum_from s) (sizes_from part i e c.loop-entry-test.true c.entry-item.is)
    ∙ sum_goes_on s (ratio_abs e.weight) c.in_ok-sum.sum (drop (i + 1) (sizes part)) (ap (λ q. checked (ratio_add s q)) (sym c.abs.ensures) ∙ sym c.in_ok-sum.ensures)

pub returns-in_err-sum : goal.returns-in_err-sum
returns-in_err-sum c =
    let part = c.args.part.now in
    let i = c.loop-entry.entry-index in
    let s = c.loop-entry.sum in
    let e = c.entry-item.result in
    c.from_residual.ensures
    ∙ sym (norm-listed part c.requires
    ∙ c.loop-entry.invariant
    ∙ ap (sum_from s) (sizes_from part i e c.loop-entry-test.true c.entry-item.is)
    ∙ sum_stops s (ratio_abs e.weight) (drop (i + 1) (sizes part)) (ap (λ q. checked (ratio_add s q)) (sym c.abs.ensures) ∙ sym c.in_err-sum.ensures))

pub returns : goal.returns
returns c =
    let part = c.args.part.now in
    sym (norm-listed part c.requires ∙ c.loop-entry.invariant ∙ ap (sum_from c.loop-entry.sum) (sizes_end part c.loop-entry.entry-index c.loop-entry-test.false))
