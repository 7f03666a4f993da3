use Rattle.std.proofs.Common.{◌∙◌, ap₂, sym}
use Rattle.std.specs.Ordering.{is_lt}
use Rattle.ratios.specs.Ratio.{ratio_cmp}
use Rattle.datasets.specs.Dataset.{at, is_negative}
use Rattle.weighted_set.proofs.Running.{place_here, place_past}
use Rattle.weighted_set.proofs.adding.first_negative.Goals as goal

pub returns-then-lt : goal.returns-then-lt
returns-then-lt c B step =
    let weights = c.weights_of.ensures B step in
    let tested = ap₂ (λ q r. is_lt (ratio_cmp q r)) weights.1 c.zero.ensures in
    sym (c.loop-at.invariant B step ∙ place_here (λ e. is_negative (at B e.0)) c.args.added.now c.loop-at.at c.index-added-at.result c.loop-at-test.true c.index-added-at.is (sym tested ∙ sym c.if-lt.ensures))

pub loop-at-preserved : goal.loop-at-preserved
loop-at-preserved c B step =
    let weights = c.weights_of.ensures B step in
    let tested = ap₂ (λ q r. is_lt (ratio_cmp q r)) weights.1 c.zero.ensures in
    c.loop-at.invariant B step ∙ place_past (λ e. is_negative (at B e.0)) c.args.added.now c.loop-at.at c.index-added-at.result c.loop-at-test.true c.index-added-at.is (sym tested ∙ sym c.if-lt.ensures)
