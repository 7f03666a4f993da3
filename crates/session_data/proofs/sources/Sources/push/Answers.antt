use Rattle.std.proofs.Common.{◌≡◌, ◌+◌, ◌∙◌, ◌++◌, ◌∷◌, [], List, Result, Bool, IfOk, ap, ap₂, arith, is_ok, length-append, subst, ℕ, if◌then◌else◌, length, map, sym, vec_len}
use Rattle.std.specs.declared.alloc.AllocFailed.{AllocFailed}
use Rattle.std.proofs.lemmas.List.{map-append}
use Rattle.indexmap.specs.IndexSet.{insert_key}
use Rattle.record_text.specs.Names.{name_eq}
use Rattle.record_text.specs.declared.name.Name.{Name}
use Rattle.datasets.specs.Dataset.{Dataset, empty}
use Rattle.weighted_set.specs.Held.{HeldDatasets}
use Rattle.plan_model.specs.Sources.{has_name}
use Rattle.plan_model.specs.declared.source_types.SourceType.{SourceType}
use Rattle.session_data.specs.Flow.{committed_family, pending_family}
use Rattle.session_data.specs.Held.{HeldSources, sources_of}
use Rattle.request_machine.specs.State.{new_source, types_of}
use Rattle.budget_book.specs.Budgets.{new_budget}
use Rattle.session_data.proofs.HeldLemmas.{committed_one, has_name-names, length-held, pending_one, sources_of-push, types_of-sources_of}
use Rattle.session_data.proofs.PlanSteps.{OnOk-held}
use Rattle.session_data.proofs.sources.Sources.push.Goals as goal

pub push-requires : goal.push-requires
push-requires c =
    let inside = c.self.inside in
    ap (λ (types : List SourceType). has_name types c.args.source_type.name) (sym (types_of-sources_of inside.types (committed_family inside.sets) inside.book (committed_one _ inside.types inside.sets inside.book c.self.invariant.0)))
    ∙ ap (λ (h : HeldSources). has_name (types_of h.committed) c.args.source_type.name) c.self.view_is ∙ c.requires.fresh

pub unwrap-requires : goal.unwrap-requires
unwrap-requires c =
    let inside = c.self.inside in
    let alike = c.self.invariant.0 in
    let few = rw (← c.self.view_is) at c.requires.few in
    c.insert.ensures.succeeds (omega (arith, few, c.self.invariant.1, alike.budgets, length-held _ inside.types inside.sets inside.book alike))

pub invariant_of-self-2 : goal.invariant_of-self-2
invariant_of-self-2 c =
    let inside = c.self.inside in
    let alike = c.self.invariant.0 in
    let t = c.args.source_type in
    let name = t.name in
    let names = map (λ (u : SourceType). u.name) inside.types in
    let types = c.in_ok-push.ensures.ok in
    let sets = OnOk-held c.push-2.result c.if-is_err.ensures.value c.push-2.ensures.ok in
    let budgets = OnOk-held c.add_source.result c.if-is_err-2.ensures.value c.add_source.ensures.ok in
    let fresh =
    ap (λ (ts : List SourceType). has_name ts name) (sym (types_of-sources_of inside.types (committed_family inside.sets) inside.book (committed_one _ inside.types inside.sets inside.book alike)))
    ∙ ap (λ (h : HeldSources). has_name (types_of h.committed) name) c.self.view_is ∙ c.requires.fresh in
    let keys =
    subst (λ (r : Result Bool (AllocFailed Name)). IfOk r (λ _. c.insert.new.self.keys ≡ insert_key name_eq inside.names.keys name)) c.unwrap.ensures c.insert.ensures.keys
    ∙ ap (λ (ks : List (List ℕ)). insert_key name_eq ks name) alike.names
    ∙ ap (λ (taken : Bool). if taken then names else names ++ name ∷ []) (has_name-names name inside.types ∙ fresh)
    ∙ sym (map-append (λ (u : SourceType). u.name) inside.types (t ∷ []))
    ∙ ap (map (λ (u : SourceType). u.name)) (sym types) in
    let more = ap length types ∙ length-append inside.types (t ∷ []) in
    let longer = ap length budgets ∙ length-append inside.book (new_budget c.args.total ∷ []) in (
      record {
        names = keys;
        sets = omega (arith, alike.sets, more, ap length sets, length-append inside.sets (c.new.result ∷ []));
        budgets = omega (arith, alike.budgets, more, longer);
      },
      omega (arith, c.self.invariant.1, c.insert.ensures.spare, longer),
    )

pub returns-clause-committed : goal.returns-clause-committed
returns-clause-committed c =
    let inside = c.self.inside in
    let t = c.args.source_type in
    let budget = new_budget c.args.total in
    let sets = OnOk-held c.push-2.result c.if-is_err.ensures.value c.push-2.ensures.ok in
    let family =
    ap committed_family sets ∙ map-append (λ (set : HeldDatasets). set.committed) inside.sets (c.new.result ∷ [])
    ∙ ap (λ (A : Dataset). committed_family inside.sets ++ A ∷ []) c.new.ensures.committed in
    let budgets = OnOk-held c.add_source.result c.if-is_err-2.ensures.value c.add_source.ensures.ok in
    ap₂ (λ (types : List SourceType) (F : List Dataset). sources_of types F c.add_source.new.self) c.in_ok-push.ensures.ok family
    ∙ ap (sources_of (inside.types ++ t ∷ []) (committed_family inside.sets ++ empty ∷ [])) budgets
    ∙ sources_of-push inside.types (committed_family inside.sets) inside.book t empty budget (committed_one _ inside.types inside.sets inside.book c.self.invariant.0)
    ∙ ap (λ (h : HeldSources). h.committed ++ new_source t.name t.kinds t.signed c.args.total ∷ []) c.self.view_is

pub returns-clause-pending : goal.returns-clause-pending
returns-clause-pending c =
    let inside = c.self.inside in
    let t = c.args.source_type in
    let budget = new_budget c.args.total in
    let sets = OnOk-held c.push-2.result c.if-is_err.ensures.value c.push-2.ensures.ok in
    let family =
    ap pending_family sets ∙ map-append (λ (set : HeldDatasets). set.pending) inside.sets (c.new.result ∷ [])
    ∙ ap (λ (A : Dataset). pending_family inside.sets ++ A ∷ []) c.new.ensures.pending in
    let budgets = OnOk-held c.add_source.result c.if-is_err-2.ensures.value c.add_source.ensures.ok in
    ap₂ (λ (types : List SourceType) (F : List Dataset). sources_of types F c.add_source.new.self) c.in_ok-push.ensures.ok family
    ∙ ap (sources_of (inside.types ++ t ∷ []) (pending_family inside.sets ++ empty ∷ [])) budgets
    ∙ sources_of-push inside.types (pending_family inside.sets) inside.book t empty budget (pending_one _ inside.types inside.sets inside.book c.self.invariant.0)
    ∙ ap (λ (h : HeldSources). h.pending ++ new_source t.name t.kinds t.signed c.args.total ∷ []) c.self.view_is
