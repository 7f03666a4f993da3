use Rattle.std.proofs.Common.{subst}
use Rattle.weighted_set.specs.Held.{PutsAt}
use Rattle.weighted_set.proofs.held.put.Goals as goal

pub returns-clause-ok : goal.returns-clause-ok
returns-clause-ok c =
    let new = c.insert.new.self.entries in
    let unchanged = c.get_mut.follows.lender-at-none.entries in
    let copied : PutsAt c.args.row.now c.args.held unchanged new = subst (λ x. PutsAt x c.args.held unchanged new) c.in_ok-copy.ensures c.in_ok-insert.ensures.updates.0 in
    subst (λ m. PutsAt c.args.row.now c.args.held m.entries new) c.get_mut.follows.holds-at-none copied
