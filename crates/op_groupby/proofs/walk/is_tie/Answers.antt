-- The entry at the place is the first of those from it on.
use Rattle.std.specs.Ordering.{eq_by_cmp}
use Rattle.std.proofs.Common.{Bor, arith, ap, sym, ◌∙◌}
use Rattle.ratios.specs.Ratio.{ratio_cmp}
use Rattle.weighted_set.specs.declared.weighted.Weighted.{Weighted}
use Rattle.level_walks.specs.Walks.{ties_with}
use Rattle.op_groupby.proofs.Steps.{entry_at}
use Rattle.op_groupby.proofs.walk.is_tie.Goals as goal

pub returns-then-at-order : goal.returns-then-at-order
returns-then-at-order c =
    c.eq.ensures
    ∙ ap (λ (e : Bor Weighted). eq_by_cmp ratio_cmp c.args.weight e.now.weight) (sym c.index-order-at.is)
    ∙ sym (ap (ties_with c.args.weight) (entry_at c.args.order.now c.args.at c.index-order-at.result (omega arith) c.index-order-at.is))
