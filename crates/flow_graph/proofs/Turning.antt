-- Graphs of plans whose sources change.
use Rattle.std.specs.Prelude.{◌≡◌, ℕ, ◌<◌, true, if◌then◌else◌, nat_eq, List, [], length, Some}
use Rattle.std.proofs.Common.{inl, inr, sym, ap, subst, ◌∙◌, get_or}
use Rattle.std.proofs.lemmas.Bool.Decides.{eqb_tells}
use Rattle.dataflow.proofs.Next.{no_changes}
use Rattle.dataflow.specs.Changes.{AreFamilyChanges}
use Rattle.dataflow.specs.Evaluation.{dataset_at, fits_at}
use Rattle.dataflow.specs.Standing.{IsMisfit, MayChange}
use Rattle.datasets.specs.Dataset.{Dataset}
use Rattle.plan_model.specs.Evaluation.{Family}
use Rattle.plan_model.specs.Fits.{misfit}
use Rattle.plan_model.specs.declared.source_types.SourceType.{SourceType}
use Rattle.plan_model.specs.declared.step.Step.{Step}
use Rattle.weighted_set.proofs.ChangeLists.{change_list_leads_there}
use Rattle.weighted_set.specs.Changes.{IsChangeList, applied}
use Rattle.weighted_set.specs.Held.{AllInRange}
use Rattle.weighted_set.specs.declared.weighted.Change.{Change}
use Rattle.flow_graph.proofs.PlanGraphs.{may_change, misfit-none, misfit-some}
use Rattle.flow_graph.specs.Plans.{IsKept, MayStand, TurnsInto}
use Rattle.flow_graph.specs.Steps.{plan_meanings, plan_wires}

-- ---- one source changes
module _ (plan : List Step) (types : List SourceType) (kept : IsKept plan types) (source : ℕ) (changes : List Change) (F G : Family) (family : MayStand plan types F) (turns : TurnsInto types source changes F G) where
  turned_in_range : ((A : Dataset) → AllInRange A → AllInRange (applied A changes)) → (s : ℕ) → AllInRange (dataset_at G s)
  turned_in_range new_in_range s = elim (eqb_tells s source) as (λ _. AllInRange (dataset_at G s)) [
    | inl same ↦
        subst (λ t. AllInRange (dataset_at G t)) (sym same.1)
        (subst AllInRange (change_list_leads_there changes (dataset_at F source) (dataset_at G source) turns.changed).1 (new_in_range (dataset_at F source) (family.in_range source)))
    | inr other ↦ subst AllInRange (sym (turns.others s other.1)) (family.in_range s)
  ]

  turning_changes : (lists : List (List Change)) → ((s : ℕ) → s < length lists → get_or lists s [] ≡ (if nat_eq s source then changes else [])) → AreFamilyChanges lists F G
  turning_changes lists each s here =
      elim (eqb_tells s source) as (λ _. IsChangeList (get_or lists s []) (dataset_at F s) (dataset_at G s)) [
        | inl same ↦
            subst (λ cs. IsChangeList cs (dataset_at F s) (dataset_at G s)) (sym (each s here ∙ ap (λ b. if b then changes else []) same.0))
            (subst (λ t. IsChangeList changes (dataset_at F t) (dataset_at G t)) (sym same.1) turns.changed)
        | inr other ↦
            subst (λ cs. IsChangeList cs (dataset_at F s) (dataset_at G s)) (sym (each s here ∙ ap (λ b. if b then changes else []) other.0))
            (subst (IsChangeList [] (dataset_at F s)) (sym (turns.others s other.1)) (no_changes (dataset_at F s)))
      ]

  pub MayChange-turning : (lists : List (List Change)) → ((s : ℕ) → s < length lists → get_or lists s [] ≡ (if nat_eq s source then changes else [])) → MayChange (plan_meanings plan types) (plan_wires plan types) lists F G
  MayChange-turning lists each =
      may_change plan types kept lists F G family turns.keeps (turning_changes lists each)

  pub MayStand-turned : ((A : Dataset) → AllInRange A → AllInRange (applied A changes)) → ((i : ℕ) → fits_at (plan_meanings plan types) (plan_wires plan types) G i ≡ true) → MayStand plan types G
  MayStand-turned new_in_range fits =
      let in_range = turned_in_range new_in_range in
      record {
        keeps = turns.keeps;
        in_range = in_range;
        fits = misfit-none plan types kept G in_range fits;
      }

  pub misfit-turned : ((A : Dataset) → AllInRange A → AllInRange (applied A changes)) → (i : ℕ) → IsMisfit (plan_meanings plan types) (plan_wires plan types) G i → misfit plan types G ≡ Some i
  misfit-turned new_in_range i first = misfit-some plan types kept G (turned_in_range new_in_range) i first
