use Rattle.std.proofs.Common.{sym}
use Rattle.session_data.specs.Flow.{committed_family, pending_family}
use Rattle.session_data.proofs.HeldLemmas.{committed_one, pending_one, family_of-sources_of}
use Rattle.session_data.proofs.sources.Sources.sets.Goals as goal

pub returns-clause-committed : goal.returns-clause-committed
returns-clause-committed c =
    let inside = c.self.inside in
    rw (sym c.self.view_is) (sym (family_of-sources_of inside.types (committed_family inside.sets) inside.book (committed_one _ inside.types inside.sets inside.book c.self.invariant.0)))

pub returns-clause-pending : goal.returns-clause-pending
returns-clause-pending c =
    let inside = c.self.inside in
    rw (sym c.self.view_is) (sym (family_of-sources_of inside.types (pending_family inside.sets) inside.book (pending_one _ inside.types inside.sets inside.book c.self.invariant.0)))
