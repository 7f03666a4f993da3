use Rattle.std.proofs.Common.{◌≡◌, take}
use Rattle.plan_model.proofs.lists.Items.try_copy.Given as goal

abbrev pub invariant-loop-item : goal.invariant-loop-item
invariant-loop-item l = l.list.items ≡ take l.item-index l.item-items
