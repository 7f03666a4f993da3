use Rattle.std.proofs.Common.{arith, sym}
use Rattle.session_data.proofs.HeldLemmas.{length-held}
use Rattle.session_data.proofs.sources.Sources.len.Goals as goal

pub returns : goal.returns
returns c =
    let alike = c.self.invariant.0 in
    rw (sym c.self.view_is) (omega (arith, c.len.ensures.value, alike.budgets, length-held _ c.self.inside.types c.self.inside.sets c.self.inside.book alike))
