use Rattle.std.proofs.Common.{◌≡◌, map, take}
use Rattle.op_groupby.proofs.order.by_falling_weight.Given as goal

abbrev pub invariant-loop-entry : goal.invariant-loop-entry
invariant-loop-entry l = map (λ e. e.now) l.order.items ≡ take l.entry-index l.part
