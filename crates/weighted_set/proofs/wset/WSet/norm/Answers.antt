use Rattle.std.proofs.Common.{ap, sym, ◌∙◌}
use Rattle.ratios.specs.Range.{checked}
use Rattle.ratios.specs.Ratio.{ratio_abs, ratio_add, zero_ratio}
use Rattle.weighted_set.proofs.WeightSets.{sizes_of, sum_from, sum_goes_on, sum_stops, table_seen}
use Rattle.weighted_set.proofs.wset.WSet.norm.Goals as goal

pub loop-weight-init : goal.loop-weight-init
loop-weight-init c =
    let es = c.into_iter-weight-iterator.result in
    ap (λ es. sum_from zero_ratio (sizes_of es)) (sym (table_seen c.self.inside.table.entries es c.args.self.now c.self.invariant c.self.view_is c.into_iter-weight-iterator.ensures.into_iter_gives.0))
    ∙ ap (λ s. sum_from s (sizes_of es)) (sym c.zero-sum.ensures)

pub loop-weight-preserved : goal.loop-weight-preserved
loop-weight-preserved c =
    let s = c.loop-weight.sum in
    c.loop-weight.invariant
    ∙ ap (λ es. sum_from s (sizes_of es)) c.in-Some.ensures.steps
    ∙ sum_goes_on s (ratio_abs c.in-Some.weight.now) c.in_ok-sum.sum (sizes_of c.next.new.self) (ap (λ q. checked (ratio_add s q)) (sym c.abs.ensures) ∙ sym c.in_ok-sum.ensures)

pub returns-in_err-sum : goal.returns-in_err-sum
returns-in_err-sum c =
    let s = c.loop-weight.sum in
    c.from_residual.ensures
    ∙ sym (c.loop-weight.invariant
    ∙ ap (λ es. sum_from s (sizes_of es)) c.in-Some.ensures.steps
    ∙ sum_stops s (ratio_abs c.in-Some.weight.now) (sizes_of c.next.new.self) (ap (λ q. checked (ratio_add s q)) (sym c.abs.ensures) ∙ sym c.in_err-sum.ensures))
