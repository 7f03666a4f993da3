-- The entry at the place is the first of those from it on.
use Rattle.std.proofs.Common.{Bor, arith, ap, sym, ◌∙◌}
use Rattle.ratios.specs.Range.{checked}
use Rattle.ratios.specs.Ratio.{ratio_sub}
use Rattle.datasets.specs.Entries.{Entries}
use Rattle.operators.specs.Operators.{down_to}
use Rattle.weighted_set.specs.declared.weighted.Weighted.{Weighted}
use Rattle.level_walks.specs.Walks.{weights_of}
use Rattle.op_groupby.proofs.Steps.{entry_at}
use Rattle.op_groupby.proofs.walk.gap_above.Goals as goal

pub returns-then-at-order : goal.returns-then-at-order
returns-then-at-order c =
    c.sub.ensures
    ∙ ap (λ (e : Bor Weighted). checked (ratio_sub c.args.weight e.now.weight)) (sym c.index-order-at.is)
    ∙ sym (ap (λ (es : Entries). checked (down_to c.args.weight (weights_of es))) (entry_at c.args.order.now c.args.at c.index-order-at.result (omega arith) c.index-order-at.is))
