use Rattle.std.proofs.Common.{◌<◌, ◌∙◌, ap, subst, sym, ℕ, List}
use Rattle.std.specs.Prelude.{slice_get}
use Rattle.plan_model.specs.declared.source_types.SourceType.{SourceType}
use Rattle.session_data.specs.Flow.{committed_family}
use Rattle.session_data.proofs.HeldLemmas.{committed_one, length-held, types_of-sources_of}
use Rattle.session_data.proofs.sources.Sources.source_type.Goals as goal

pub at-requires : goal.at-requires
at-requires c =
    let inside = c.self.inside in
    let lt = rw (← c.self.view_is) at c.requires in
    subst (λ (n : ℕ). c.args.at < n) (length-held _ inside.types inside.sets inside.book c.self.invariant.0) lt

pub returns : goal.returns
returns c =
    let inside = c.self.inside in
    rw (sym c.self.view_is)
    (ap (λ (types : List SourceType). slice_get types c.args.at) (types_of-sources_of inside.types (committed_family inside.sets) inside.book (committed_one _ inside.types inside.sets inside.book c.self.invariant.0))
    ∙ c.at.ensures)
