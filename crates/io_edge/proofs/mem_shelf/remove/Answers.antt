use Rattle.std.proofs.Common.{rules}
use Rattle.std.proofs.lemmas.Fn.{filter_same}
use Rattle.io_edge.proofs.mem_shelf.remove.Goals as goal

pub returns-clause-others : goal.returns-clause-others
returns-clause-others c = filter_same _ _ _ (λ file kept f called. search rules) _ _ c.retain.ensures.filtered
