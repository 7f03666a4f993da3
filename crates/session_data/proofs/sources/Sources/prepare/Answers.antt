use Rattle.std.proofs.Common.{◌∙◌, List, ap, ap₂, arith, set, subst, sym}
use Rattle.std.proofs.lemmas.Option.{get_or_from_slice_get}
use lib.Seq.{map-set_same}
use Rattle.std.proofs.lemmas.List.{map-set}
use Rattle.std.proofs.lemmas.Result.{err_from_is_err_and}
use Rattle.datasets.specs.Dataset.{Dataset, with_added}
use Rattle.plan_model.specs.declared.source_types.SourceType.{SourceType}
use Rattle.weighted_set.specs.Adding.{AreChangesOfAdding, IsAddFault}
use Rattle.weighted_set.specs.Changes.{applied, entries_of}
use Rattle.weighted_set.specs.declared.weighted.Change.{Change}
use Rattle.weighted_set.specs.Held.{HeldDatasets}
use Rattle.session_data.specs.Flow.{committed_family}
use Rattle.session_data.specs.Held.{HeldSources, sources_of}
use Rattle.request_machine.specs.State.{SourceState}
use Rattle.session_data.proofs.HeldLemmas.{committed_one, held-settled, held_here, length-held, rows-held, set_settled, sources_of-set, type-held}
use Rattle.session_data.proofs.PlanSteps.{OnErr-always}
use Rattle.session_data.proofs.sources.Sources.prepare.Goals as goal

pub at-signed-requires : goal.at-signed-requires
at-signed-requires c =
    let inside = c.self.inside in
    let lt = rw (← c.self.view_is) at c.requires.place in
    omega (arith, lt, length-held _ inside.types inside.sets inside.book c.self.invariant.0)

pub at-requires : goal.at-requires
at-requires c =
    let inside = c.self.inside in
    let alike = c.self.invariant.0 in
    let lt = rw (← c.self.view_is) at c.requires.place in
    omega (arith, lt, alike.sets, length-held _ inside.types inside.sets inside.book alike)

pub changes_of-requires : goal.changes_of-requires
changes_of-requires c =
    let inside = c.self.inside in
    set_settled inside.sets c.args.at c.at.result.now (held-settled _ inside.types inside.sets inside.book c.self.invariant.0 c.args.self.now c.self.view_is c.requires.settled) c.at.ensures

pub returns-in_err-changes-clause-err : goal.returns-in_err-changes-clause-err
returns-in_err-changes-clause-err c =
    let inside = c.self.inside in
    let p = err_from_is_err_and c.from_residual.result c.from_residual.ensures.1 in
    rw (p.1, p.2) (λ source here.
    let rows = rows-held _ inside.types inside.sets inside.book c.self.invariant.0 c.args.self.now c.self.view_is c.args.at source c.at.result.now here c.at.ensures in
    let typed = type-held _ inside.types inside.sets inside.book c.self.invariant.0 c.args.self.now c.self.view_is c.args.at source c.at-signed.result here c.at-signed.ensures in
    subst (λ (A : Dataset). IsAddFault A c.args.added.now source.signed c.in_err-changes.field-0.0) rows
    (subst (λ (t : SourceType). IsAddFault c.at.result.now.committed c.args.added.now t.signed c.in_err-changes.field-0.0) typed c.in_err-changes.ensures.err))

pub at_mut-requires : goal.at_mut-requires
at_mut-requires c =
    let inside = c.self.inside in
    let alike = c.self.invariant.0 in
    let lt = rw (← c.self.view_is) at c.requires.place in
    omega (arith, lt, alike.sets, length-held _ inside.types inside.sets inside.book alike)

pub prepare-requires-clause-settled : goal.prepare-requires-clause-settled
prepare-requires-clause-settled c =
    let inside = c.self.inside in
    set_settled inside.sets c.args.at c.at_mut.result.now (held-settled _ inside.types inside.sets inside.book c.self.invariant.0 c.args.self.now c.self.view_is c.requires.settled) c.at_mut.ensures.value

pub returns-in_err-prepare-clause-committed : goal.returns-in_err-prepare-clause-committed
returns-in_err-prepare-clause-committed c =
    let inside = c.self.inside in
    let same = c.prepare.ensures.committed ∙ ap (λ (set : HeldDatasets). set.committed) (sym (get_or_from_slice_get inside.sets c.args.at c.at_mut.result.now c.prepare.new.self c.at_mut.ensures.value)) in
    ap (λ (F : List Dataset). sources_of inside.types F inside.book) (map-set_same (λ (set : HeldDatasets). set.committed) inside.sets c.args.at c.prepare.new.self c.prepare.new.self same)
    ∙ ap (λ (h : HeldSources). h.committed) c.self.view_is

pub returns-in_err-prepare-clause-none_pending : goal.returns-in_err-prepare-clause-none_pending
returns-in_err-prepare-clause-none_pending c =
    let inside = c.self.inside in
    let same = c.in_err-prepare.ensures.err ∙ ap (λ (set : HeldDatasets). set.pending) (sym (get_or_from_slice_get inside.sets c.args.at c.at_mut.result.now c.prepare.new.self c.at_mut.ensures.value)) in
    OnErr-always c.from_residual-in_err-prepare.result
    (ap (λ (F : List Dataset). sources_of inside.types F inside.book)
    (map-set_same (λ (set : HeldDatasets). set.pending) inside.sets c.args.at c.prepare.new.self c.prepare.new.self same ∙ held-settled _ inside.types inside.sets inside.book c.self.invariant.0 c.args.self.now c.self.view_is c.requires.settled)
    ∙ ap (λ (h : HeldSources). h.committed) c.self.view_is)

pub returns-clause-committed : goal.returns-clause-committed
returns-clause-committed c =
    let inside = c.self.inside in
    let same = c.prepare.ensures.committed ∙ ap (λ (set : HeldDatasets). set.committed) (sym (get_or_from_slice_get inside.sets c.args.at c.at_mut.result.now c.prepare.new.self c.at_mut.ensures.value)) in
    ap (λ (F : List Dataset). sources_of inside.types F inside.book) (map-set_same (λ (set : HeldDatasets). set.committed) inside.sets c.args.at c.prepare.new.self c.prepare.new.self same)
    ∙ ap (λ (h : HeldSources). h.committed) c.self.view_is

pub returns-clause-changes : goal.returns-clause-changes
returns-clause-changes c =
    λ source here.
    let inside = c.self.inside in
    let rows = rows-held _ inside.types inside.sets inside.book c.self.invariant.0 c.args.self.now c.self.view_is c.args.at source c.at.result.now here c.at.ensures in
    let typed = type-held _ inside.types inside.sets inside.book c.self.invariant.0 c.args.self.now c.self.view_is c.args.at source c.at-signed.result here c.at-signed.ensures in
    subst (λ (A : Dataset). AreChangesOfAdding A c.args.added.now source.signed c.in_ok-changes.changes.items) rows
    (subst (λ (t : SourceType). AreChangesOfAdding c.at.result.now.committed c.args.added.now t.signed c.in_ok-changes.changes.items) typed c.in_ok-changes.ensures.ok)

pub returns-clause-pending : goal.returns-clause-pending
returns-clause-pending c =
    λ source here.
    let inside = c.self.inside in
    let alike = c.self.invariant.0 in
    let rows = rows-held _ inside.types inside.sets inside.book alike c.args.self.now c.self.view_is c.args.at source c.at.result.now here c.at.ensures in
    let mutable = rows-held _ inside.types inside.sets inside.book alike c.args.self.now c.self.view_is c.args.at source c.at_mut.result.now here c.at_mut.ensures.value in
    let family = committed_family inside.sets in
    let leads = c.law_changes.ensures.leads_there c.in_ok-changes.changes.items c.at.result.now.committed (with_added c.at.result.now.committed (entries_of c.args.added.now)) c.in_ok-changes.ensures.ok.lead_there in
    let made =
    c.in_ok-prepare.ensures.ok ∙ ap₂ (λ (A : Dataset) (cs : List Change). applied A cs) (mutable ∙ sym rows) c.as_slice.ensures.value ∙ leads.1
    ∙ ap (λ (A : Dataset). with_added A (entries_of c.args.added.now)) rows in
    ap (λ (F : List Dataset). sources_of inside.types F inside.book)
    (map-set (λ (set : HeldDatasets). set.pending) inside.sets c.args.at c.prepare.new.self
    ∙ ap (λ (F : List Dataset). set F c.args.at c.prepare.new.self.pending) (held-settled _ inside.types inside.sets inside.book c.self.invariant.0 c.args.self.now c.self.view_is c.requires.settled))
    ∙ sources_of-set inside.types family inside.book c.args.at source c.prepare.new.self.pending (committed_one _ inside.types inside.sets inside.book alike)
    (held_here _ inside.types inside.sets inside.book alike c.args.self.now c.self.view_is c.args.at source here)
    ∙ ap₂ (λ (sources : List SourceState) (A : Dataset). set sources c.args.at (record source { rows = A })) (ap (λ (h : HeldSources). h.committed) c.self.view_is) made
