use Rattle.std.proofs.Common.{◌≡◌, take}
use Rattle.plan_model.proofs.lists.Exprs.try_copy.Given as goal

abbrev pub invariant-loop-expr : goal.invariant-loop-expr
invariant-loop-expr l = l.list.items ≡ take l.expr-index l.expr-items
