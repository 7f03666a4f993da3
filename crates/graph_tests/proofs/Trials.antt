-- What tests keep of graphs, as their sources change.
use Rattle.std.specs.Prelude.{◌≡◌, ℕ, zero, suc, ◌<◌, All, true, List, [], ◌∷◌, length, slice_get, Some}
use Rattle.std.proofs.Common.{sym, ap, subst, ◌∙◌, arith, set, true≢false}
use Rattle.std.proofs.lemmas.List.Elements.{All-get_or}
use Rattle.std.proofs.lemmas.List.{get_or-set_other, get_or-set_same}
use Rattle.std.proofs.lemmas.Option.{get_or_from_slice_get, same_Some, slice_get_within}
use Rattle.record_text.specs.KindLists.{kinds_of}
use Rattle.datasets.specs.Dataset.{Dataset, empty}
use Rattle.plan_model.proofs.TypedSteps.{IsTyped-empty}
use Rattle.plan_model.specs.Evaluation.{Family, dataset_at}
use Rattle.plan_model.specs.Types.{HasColumns, Keeps, KeepsType}
use Rattle.plan_model.specs.declared.source_types.SourceType.{SourceType}
use Rattle.dataflow.proofs.Evaluated.{get_or-map_at}
use Rattle.weighted_set.proofs.ChangeLists.{change_list_leads_there, changes_are_change_list}
use Rattle.weighted_set.specs.Adding.{AreChangesOfAdding}
use Rattle.weighted_set.specs.Changes.{AreChangesOf, IsChangeList, applied}
use Rattle.weighted_set.specs.Held.{HeldDatasets}
use Rattle.weighted_set.specs.declared.weighted.Change.{Change}
use Rattle.weighted_set.specs.declared.weighted.Weighted.{Weighted}
use Rattle.flow_graph.proofs.Filling.{length-Keeps}
use Rattle.flow_graph.specs.Fresh.{committed_family}
use Rattle.flow_graph.specs.Plans.{TurnsInto}
use Rattle.graph_tests.specs.Trials.{AreSettled, MayPut, no_set, put_at}
use Rattle.trial_rows.proofs.ChangedColumns.{HasColumns-applied}

-- ---- sets
pub set_settled : (sets : List HeldDatasets) (i : ℕ) (h : HeldDatasets) → AreSettled sets → slice_get sets i ≡ Some h → h.pending ≡ h.committed
set_settled sets i h settled here =
    subst (λ (s : HeldDatasets). s.pending ≡ s.committed) (get_or_from_slice_get sets i h h here) (All-get_or (λ (s : HeldDatasets). s.pending ≡ s.committed) sets i h (slice_get_within sets i h here) settled)

pub committed_at : (sets : List HeldDatasets) (i : ℕ) (h : HeldDatasets) → slice_get sets i ≡ Some h → dataset_at (committed_family sets) i ≡ h.committed
committed_at sets i h here = get_or-map_at (λ (s : HeldDatasets). s.committed) sets i h empty here

pub has_no_rows : (h : HeldDatasets) → h.committed ≡ empty → h.pending ≡ empty → h ≡ no_set
has_no_rows h committed pending = λ i. record { committed = committed i; pending = pending i }

-- ---- families
keeps_at : (types : List SourceType) (F : Family) (s : ℕ) (t : SourceType) → slice_get types s ≡ Some t → Keeps types F → KeepsType t (dataset_at F s)
keeps_at [] F s t here keeps = cc
keeps_at (u ∷ types) [] s t here keeps = absurd keeps
keeps_at (u ∷ types) (A ∷ F) zero t here keeps = subst (λ v. KeepsType v A) (same_Some u t here) keeps.0
keeps_at (u ∷ types) (A ∷ F) (suc s) t here keeps = keeps_at types F s t here keeps.1

Keeps-set : (types : List SourceType) (F : Family) (s : ℕ) (t : SourceType) (C : Dataset) → slice_get types s ≡ Some t → KeepsType t C → Keeps types F → Keeps types (set F s C)
Keeps-set [] F s t C here new keeps = cc
Keeps-set (u ∷ types) [] s t C here new keeps = absurd keeps
Keeps-set (u ∷ types) (A ∷ F) zero t C here new keeps = (subst (λ v. KeepsType v C) (sym (same_Some u t here)) new, keeps.1)
Keeps-set (u ∷ types) (A ∷ F) (suc s) t C here new keeps = (keeps.0, Keeps-set types F s t C here new keeps.1)

pub TurnsInto-put : (types : List SourceType) (F : Family) (s : ℕ) (t : SourceType) (changes : List Change) → slice_get types s ≡ Some t → Keeps types F → t.signed ≡ true → AreChangesOf changes (dataset_at F s) → All (λ (c : Change). kinds_of c.row ≡ t.kinds) changes
    → TurnsInto types s changes F (put_at F s changes)
TurnsInto-put types F s t changes here keeps signed can each =
    let within = slice_get_within types s t here in
    let size = length-Keeps types F keeps in
    let C = applied (dataset_at F s) changes in
    record {
      within = within;
      changed = subst (IsChangeList changes (dataset_at F s)) (sym (get_or-set_same F s C empty (omega arith))) (changes_are_change_list changes (dataset_at F s) can);
      others = λ j other. get_or-set_other F s j C empty other;
      keeps = Keeps-set types F s t C here (record { columns = HasColumns-applied t.kinds (dataset_at F s) changes (keeps_at types F s t here keeps).columns each; sign = λ strict. absurd (true≢false (sym signed ∙ strict)) }) keeps;
    }

keeps_none : (t : SourceType) → KeepsType t empty
keeps_none t = record { columns = (IsTyped-empty t.kinds t.signed).rows; sign = (IsTyped-empty t.kinds t.signed).sign }

pub Keeps-two : (types : List SourceType) → length types ≡ 2 → Keeps types (committed_family (no_set ∷ no_set ∷ []))
Keeps-two [] size = absurd (omega arith)
Keeps-two (t ∷ []) size = absurd (omega arith)
Keeps-two (t ∷ u ∷ []) size = (keeps_none t, (keeps_none u, tt))
Keeps-two (t ∷ u ∷ v ∷ types) size = absurd (omega arith)

-- rows of the source's columns can be added to a source at a place
pub MayPut-added : (types : List SourceType) (sets : List HeldDatasets) (s : ℕ) (t : SourceType) (held : HeldDatasets) (added : List Weighted) (changes : List Change) → s < length sets → slice_get types s ≡ Some t → slice_get sets s ≡ Some held → t.signed ≡ true
    → AreChangesOfAdding held.committed added true changes → Keeps types (committed_family sets) → All (λ (c : Change). kinds_of c.row ≡ t.kinds) changes → MayPut types sets s changes
MayPut-added types sets s t held added changes within typed here signed adding keeps each =
    let can : AreChangesOf changes (dataset_at (committed_family sets) s) =
    subst (AreChangesOf changes) (sym (committed_at sets s held here)) (change_list_leads_there changes held.committed _ adding.lead_there).0 in
    record {
      within = within;
      can = can;
      turns = TurnsInto-put types (committed_family sets) s t changes typed keeps signed can each;
    }
