use Rattle.std.proofs.Common.{sym}
use Rattle.session_data.specs.Flow.{committed_family}
use Rattle.session_data.proofs.BookLemmas.{book_of-sources_of}
use Rattle.session_data.proofs.HeldLemmas.{committed_one}
use Rattle.session_data.proofs.sources.Sources.book.Goals as goal

pub returns : goal.returns
returns c =
    let inside = c.self.inside in
    rw (sym c.self.view_is) (sym (book_of-sources_of inside.types (committed_family inside.sets) inside.book (committed_one _ inside.types inside.sets inside.book c.self.invariant.0)))
