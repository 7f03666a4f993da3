use Rattle.std.proofs.Common.{◌∙◌, ap, sym, position}
use Rattle.record_text.specs.Names.{name_eq}
use Rattle.session_data.specs.Flow.{committed_family}
use Rattle.session_data.specs.Held.{sources_of}
use Rattle.request_machine.specs.Named.{source_name}
use Rattle.session_data.proofs.HeldLemmas.{committed_one, names-sources_of}
use Rattle.request_machine.proofs.Named.{position-names}
use Rattle.session_data.proofs.sources.Sources.place_of.Goals as goal

pub returns : goal.returns
returns c =
    let inside = c.self.inside in
    let alike = c.self.invariant.0 in
    let names = alike.names ∙ sym (names-sources_of inside.types (committed_family inside.sets) inside.book (committed_one _ inside.types inside.sets inside.book alike)) in
    rw (sym c.self.view_is)
    (c.get_index_of.ensures.index ∙ ap (position (name_eq c.args.name)) names
    ∙ position-names source_name c.args.name (sources_of inside.types (committed_family inside.sets) inside.book))
