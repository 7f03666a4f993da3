-- What a plan with its nodes and output stands for, from what they stand for with their wires.
use Rattle.std.specs.Prelude.{◌≡◌, ℕ, ◌+◌, ◌<◌, ◌≤◌, true, if◌then◌else◌, nat_eq, List, [], length, Some}
use Rattle.std.proofs.Common.{sym, ap, subst, ◌∙◌, arith, get_or}
use Rattle.std.proofs.lemmas.List.{length-map}
use Rattle.dataflow.specs.Evaluation.{fits_at}
use Rattle.dataflow.specs.Standing.{IsMisfit, MayChange, meanings}
use Rattle.dataflow.specs.Wiring.{AreWired}
use Rattle.dataflow.specs.declared.wire.Wire.{Wire}
use Rattle.datasets.specs.Dataset.{Dataset}
use Rattle.plan_model.proofs.Plans.{some_steps}
use Rattle.plan_model.specs.Evaluation.{Family}
use Rattle.plan_model.specs.Fits.{misfit}
use Rattle.plan_model.specs.declared.source_types.SourceType.{SourceType}
use Rattle.plan_model.specs.declared.step.Step.{Step}
use Rattle.weighted_set.specs.Changes.{applied}
use Rattle.weighted_set.specs.Held.{AllInRange}
use Rattle.weighted_set.specs.Parts.{StoreParts}
use Rattle.weighted_set.specs.Standing.{IsWithin, Meaning, Standing}
use Rattle.weighted_set.specs.declared.weighted.Change.{Change}
use Rattle.flow_graph.proofs.PlanGraphs.{are_wired, length-meanings, length-wires}
use Rattle.flow_graph.proofs.Turning.{MayChange-turning, MayStand-turned, misfit-turned}
use Rattle.dataflow.specs.Wired.{WiresPend, WiresStand}
use Rattle.dataflow.specs.Work.{wired_work}
use Rattle.flow_graph.proofs.PlanWorks.{most_ticks-wired}
use Rattle.flow_graph.specs.Plans.{PlanPends, PlanStands, TurnsInto}
use Rattle.flow_graph.specs.Steps.{plan_meanings, plan_wires}
use Rattle.flow_graph.specs.Work.{most_ticks}

module _ {N : Type 0} (of : N → Standing) (plan : List Step) (types : List SourceType) (nodes : List N) (out : StoreParts) (F : Family) (s : PlanStands of plan types nodes out F) (wires : List Wire) (is : wires ≡ plan_wires plan types) where
  pub some_wires : 0 < length wires
  some_wires = let size = ap length is ∙ length-wires plan types s.kept in let some = some_steps plan s.kept.steps in omega arith

  pub same_length : length nodes ≡ length wires
  same_length = sym (length-map nodes (λ n. (of n).meaning)) ∙ ap length s.same ∙ length-meanings plan types s.kept ∙ sym (length-wires plan types s.kept) ∙ sym (ap length is)

  pub wired_for : (count : ℕ) → count ≡ length types → AreWired wires count
  wired_for count same = subst (AreWired wires) (sym same) (subst (λ ws. AreWired ws (length types)) (sym is) (are_wired plan types s.kept))

  pub stand_wired : WiresStand of nodes out wires F
  stand_wired = subst (λ ws. WiresStand of nodes out ws F) (sym is) s.held

  pub PlanStands-kept : (new : List N) (after : StoreParts) → meanings of new ≡ meanings of nodes → WiresStand of new after wires F → PlanStands of plan types new after F
  PlanStands-kept new after same held = record { kept = s.kept; same = same ∙ s.same; family = s.family; held = subst (λ ws. WiresStand of new after ws F) is held }

  -- the ticks within the work of the nodes are within the plan's
  pub ticks_wired : (G : Family) (a b : ℕ) → IsWithin a (wired_work (meanings of nodes) wires F G) b → b ≤ a + most_ticks plan types F G
  ticks_wired G a b h =
      most_ticks-wired plan types s.kept F G a b
      (subst (λ ws. IsWithin a (wired_work (plan_meanings plan types) ws F G) b) is (subst (λ (ms : List Meaning). IsWithin a (wired_work ms wires F G) b) s.same h))

  module _ (source : ℕ) (changes : List Change) (G : Family) (turns : TurnsInto types source changes F G) where
    pub may_change_wired : (lists : List (List Change)) → ((i : ℕ) → i < length lists → get_or lists i [] ≡ (if nat_eq i source then changes else [])) → MayChange (meanings of nodes) wires lists F G
    may_change_wired lists each =
        subst (λ (ms : List Meaning). MayChange ms wires lists F G) (sym s.same)
        (subst (λ ws. MayChange (plan_meanings plan types) ws lists F G) (sym is) (MayChange-turning plan types s.kept source changes F G s.family turns lists each))

    module _ (in_range : (A : Dataset) → AllInRange A → AllInRange (applied A changes)) where
      pub PlanPends-turned : (new : List N) (after : StoreParts) → meanings of new ≡ meanings of nodes → ((i : ℕ) → fits_at (meanings of nodes) wires G i ≡ true) → WiresPend of new after wires G → PlanPends of plan types new after G
      PlanPends-turned new after same fits held = record {
        kept = s.kept;
        same = same ∙ s.same;
        family = MayStand-turned plan types s.kept source changes F G s.family turns in_range (subst (λ ws. (i : ℕ) → fits_at (plan_meanings plan types) ws G i ≡ true) is (subst (λ (ms : List Meaning). (i : ℕ) → fits_at ms wires G i ≡ true) s.same fits));
        held = subst (λ ws. WiresPend of new after ws G) is held;
      }

      pub misfit-wired : (i : ℕ) → IsMisfit (meanings of nodes) wires G i → misfit plan types G ≡ Some i
      misfit-wired i first = misfit-turned plan types s.kept source changes F G s.family turns in_range i (subst (λ ws. IsMisfit (plan_meanings plan types) ws G i) is (subst (λ (ms : List Meaning). IsMisfit ms wires G i) s.same first))
