-- Fresh nodes stand for sources without rows, which are then filled.
use Rattle.std.proofs.Common.{◌≡◌, List, ap, subst, sym, ◌∙◌}
use Rattle.std.specs.Vec.{with_items}
use Rattle.dataflow.specs.Standing.{meanings}
use Rattle.dataflow.specs.Wired.{AreAtRest}
use Rattle.plan_model.specs.declared.source_types.SourceType.{SourceType}
use Rattle.plan_model.specs.declared.step.Step.{Step}
use Rattle.flow_graph.specs.Fresh.{AreFresh, committed_family}
use Rattle.flow_graph.specs.Nodes.{node_standing}
use Rattle.flow_graph.specs.Plans.{IsKept, PlanStands}
use Rattle.flow_graph.specs.Steps.{plan_meanings}
use Rattle.flow_graph.proofs.NoRows.{PlanStands-fresh}
use Rattle.flow_graph.proofs.NodesLent.{given_back}
use Rattle.flow_graph.proofs.flow.FlowGraph.build.Goals as goal

pub fill_plan-requires-clause-at_rest : goal.fill_plan-requires-clause-at_rest
fill_plan-requires-clause-at_rest g c =
    let is = c.as_mut_slice.ensures.value in
    let fresh = c.in_ok-nodes.ensures in
    subst (λ ns. AreAtRest node_standing ns c.new-out.result) (sym is) (record { idle = fresh.idle; settled = λ k. c.new-out.ensures.pending k ∙ sym (c.new-out.ensures.committed k) })

pub fill_plan-requires-clause-fresh : goal.fill_plan-requires-clause-fresh
fill_plan-requires-clause-fresh g c =
    let plan = c.args.plan.now in
    let types = c.args.types.now in
    let kept : IsKept plan types = record { steps = c.len-steps.ensures.plan; accepted = c.requires.accepted } in
    PlanStands-fresh plan types kept node_standing c.as_mut_slice.result.now c.new-out.result
    (subst (λ ns. AreFresh node_standing ns (plan_meanings plan types)) (sym c.as_mut_slice.ensures.value) c.in_ok-nodes.ensures) c.new-out.ensures.committed

pub returns-in-Ok-clause-stands : goal.returns-in-Ok-clause-stands
returns-in-Ok-clause-stands g c =
    let plan = c.args.plan.now in
    let types = c.args.types.now in
    let own_types = c.in_ok-own_types.own_types in
    let nodes = c.in_ok-nodes.nodes in
    let lent = c.as_mut_slice.result.now in
    let is = c.as_mut_slice.ensures.value in
    let new = c.fill_plan.new.nodes in
    let after = c.fill_plan.new.out in
    let G = committed_family c.args.sources.now in
    let stands = c.in-Ok.ensures.stands in
    let same : meanings node_standing new ≡ meanings node_standing lent = stands.same ∙ sym (ap (meanings node_standing) is ∙ c.in_ok-nodes.ensures.same) in
    record {
      plan = subst (λ (p : List Step). PlanStands node_standing p own_types (with_items nodes new).items after G) (sym c.in_ok-own_plan.ensures)
          (subst (λ (ts : List SourceType). PlanStands node_standing plan ts (with_items nodes new).items after G) (sym c.in_ok-own_types.ensures)
          (given_back node_standing nodes lent new is same (λ ns. PlanStands node_standing plan types ns after G) stands));
      at_rest = λ _. given_back node_standing nodes lent new is same (λ ns. AreAtRest node_standing ns after) c.in-Ok.ensures.at_rest;
    }
