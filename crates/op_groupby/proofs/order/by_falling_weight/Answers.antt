use Rattle.std.proofs.Common.{◌≡◌, rules, arith, ◌∙◌}
use Rattle.std.specs.Ordering.{is_lt}
use Rattle.std.proofs.lemmas.Fn.{always_returns_same}
use Rattle.std.proofs.lemmas.List.{take_all}
use Rattle.std.proofs.lemmas.List.Sorted.{IsStrictWeakOrder-flip, ranks_by}
use Rattle.ratios.proofs.Order.{ratio_cmp_total}
use Rattle.op_groupby.proofs.Sorted.{falling_order, heavier}
use Rattle.op_groupby.proofs.order.by_falling_weight.Goals as goal

pub returns : goal.returns
returns c =
    falling_order c.args.part.now c.loop-entry.order.items c.sort_unstable_by.new.self.items
    (c.loop-entry.invariant ∙ take_all c.loop-entry.entry-index c.args.part.now (omega arith))
    c.sort_unstable_by.ensures.permutation
    (c.sort_unstable_by.ensures.sorted heavier (IsStrictWeakOrder-flip _ (ranks_by ratio_cmp_total (λ e. e.now.weight)))
    (always_returns_same _ (λ a r. is_lt r ≡ heavier a.0.now a.1.0.now) _ (λ a r f' k. search rules)))
