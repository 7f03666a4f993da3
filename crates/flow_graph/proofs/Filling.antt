-- A plan whose sources are filled with what they hold.
use Rattle.std.specs.Prelude.{◌≡◌, ℕ, zero, suc, ◌<◌, true, List, [], ◌∷◌, length, Some}
use Rattle.std.proofs.Common.{refl, sym, subst, ◌∙◌, arith, get_or}
use Rattle.std.proofs.lemmas.List.{length-map}
use Rattle.dataflow.specs.Changes.{AreFamilyChanges}
use Rattle.dataflow.specs.Evaluation.{dataset_at, fits_at}
use Rattle.dataflow.specs.Standing.{IsMisfit, MayChange, meanings}
use Rattle.dataflow.specs.Wired.{WiresStand}
use Rattle.dataflow.specs.declared.wire.Wire.{Wire}
use Rattle.datasets.specs.Dataset.{empty}
use Rattle.plan_model.specs.Evaluation.{Family}
use Rattle.plan_model.specs.Fits.{misfit}
use Rattle.plan_model.specs.Types.{Keeps}
use Rattle.plan_model.specs.declared.source_types.SourceType.{SourceType}
use Rattle.plan_model.specs.declared.step.Step.{Step}
use Rattle.weighted_set.proofs.Sets.{AllInRange-empty}
use Rattle.weighted_set.specs.Changes.{IsChangeList}
use Rattle.weighted_set.specs.Held.{AllInRange, HeldDatasets}
use Rattle.weighted_set.specs.Parts.{StoreParts}
use Rattle.weighted_set.specs.Standing.{Meaning, Standing}
use Rattle.weighted_set.specs.declared.weighted.Change.{Change}
use Rattle.flow_graph.proofs.NoRows.{HaveNoRows-sources}
use Rattle.flow_graph.proofs.PlanGraphs.{may_change, misfit-none, misfit-some}
use Rattle.flow_graph.specs.Fresh.{committed_family, no_rows}
use Rattle.flow_graph.specs.Plans.{PlanStands}
use Rattle.flow_graph.specs.Steps.{plan_meanings, plan_wires}

pub length-Keeps : (types : List SourceType) (F : Family) → Keeps types F → length F ≡ length types
length-Keeps [] [] keeps = refl
length-Keeps [] (A ∷ F) keeps = absurd keeps
length-Keeps (t ∷ types) [] keeps = absurd keeps
length-Keeps (t ∷ types) (A ∷ F) keeps = let rest = length-Keeps types F keeps.1 in omega arith

in_range_everywhere : (G : Family) → ((s : ℕ) → s < length G → AllInRange (dataset_at G s)) → (s : ℕ) → AllInRange (dataset_at G s)
in_range_everywhere [] h s = AllInRange-empty
in_range_everywhere (A ∷ G) h zero = h 0 (omega arith)
in_range_everywhere (A ∷ G) h (suc s) = in_range_everywhere G (λ t below. h (suc t) (omega arith)) s

module _ (types : List SourceType) (sources : List HeldDatasets) (keeps : Keeps types (committed_family sources)) where
  -- the sources are as many as their types
  pub filled_count : length sources ≡ length types
  filled_count = sym (length-map sources (λ (h : HeldDatasets). h.committed)) ∙ length-Keeps types (committed_family sources) keeps

  pub in_range_held : ((s : ℕ) → s < length sources → AllInRange (dataset_at (committed_family sources) s)) → (s : ℕ) → AllInRange (dataset_at (committed_family sources) s)
  in_range_held h =
      in_range_everywhere (committed_family sources) (λ s within. h s (let size = length-map sources (λ (h : HeldDatasets). h.committed) in omega arith))

  module _ {N : Type 0} (of : N → Standing) (plan : List Step) (nodes : List N) (out : StoreParts) (stands : PlanStands of plan types nodes out (no_rows types)) (wires : List Wire) (is : wires ≡ plan_wires plan types) where
    abbrev G : Family
    G = committed_family sources

    -- the rows of the sources are their changes
    pub may_fill : (lists made : List (List Change)) → lists ≡ made → length made ≡ length sources
        → ((s : ℕ) → s < length sources → IsChangeList (get_or made s []) empty (dataset_at G s)) → MayChange (meanings of nodes) wires lists (no_rows types) G
    may_fill lists made same size each =
        let changes : AreFamilyChanges made (no_rows types) G = λ s within. subst (λ A. IsChangeList (get_or made s []) A (dataset_at G s)) (sym (HaveNoRows-sources types s)) (each s (omega arith)) in
        subst (λ (ms : List Meaning). MayChange ms wires lists (no_rows types) G) (sym stands.same)
        (subst (λ ws. MayChange (plan_meanings plan types) ws lists (no_rows types) G) (sym is)
        (subst (λ ls. MayChange (plan_meanings plan types) (plan_wires plan types) ls (no_rows types) G) (sym same)
        (may_change plan types stands.kept made (no_rows types) G stands.family keeps changes)))

    module _ (in_range : (s : ℕ) → AllInRange (dataset_at G s)) where
      pub PlanStands-filled : (new : List N) (after : StoreParts) → meanings of new ≡ meanings of nodes → ((i : ℕ) → fits_at (meanings of new) wires G i ≡ true) → WiresStand of new after wires G → PlanStands of plan types new after G
      PlanStands-filled new after same fits held =
          let means : meanings of new ≡ plan_meanings plan types = same ∙ stands.same in
          record {
            kept = stands.kept;
            same = means;
            family = record {
              keeps = keeps;
              in_range = in_range;
              fits = misfit-none plan types stands.kept G in_range
                  (subst (λ ws. (i : ℕ) → fits_at (plan_meanings plan types) ws G i ≡ true) is (subst (λ (ms : List Meaning). (i : ℕ) → fits_at ms wires G i ≡ true) means fits));
            };
            held = subst (λ ws. WiresStand of new after ws G) is held;
          }

      pub misfit-filled : (i : ℕ) → IsMisfit (meanings of nodes) wires G i → misfit plan types G ≡ Some i
      misfit-filled i first =
          misfit-some plan types stands.kept G in_range i
          (subst (λ ws. IsMisfit (plan_meanings plan types) ws G i) is (subst (λ (ms : List Meaning). IsMisfit ms wires G i) stands.same first))
