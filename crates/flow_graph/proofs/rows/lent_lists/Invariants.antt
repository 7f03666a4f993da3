use Rattle.std.proofs.Common.{◌≡◌, map, take}
use Rattle.flow_graph.proofs.rows.lent_lists.Given as goal

abbrev pub invariant-loop-list : goal.invariant-loop-list
invariant-loop-list l = map (λ x. x.now) l.lent.items ≡ map (λ x. x.items) (take l.list-index l.lists)
