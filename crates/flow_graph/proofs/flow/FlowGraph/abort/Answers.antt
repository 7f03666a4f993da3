use Rattle.std.proofs.Common.{◌≡◌, sym, subst, ◌∙◌}
use Rattle.flow_graph.specs.Nodes.{node_standing}
use Rattle.flow_graph.proofs.NodesLent.{given_back}
use Rattle.dataflow.specs.Wired.{AreAtRest, WiresStand}
use Rattle.flow_graph.specs.Plans.{PlanStands}
use Rattle.flow_graph.specs.Steps.{plan_meanings, plan_wires}
use Rattle.dataflow.specs.Standing.{meanings}
use Rattle.flow_graph.proofs.flow.FlowGraph.abort.Goals as goal

pub returns-clause-committed : goal.returns-clause-committed
returns-clause-committed c F s =
    let graph = c.args.self.now in
    let lent = c.as_mut_slice.result.now in
    let is = c.as_mut_slice.ensures.value in
    let new = c.abort_wired.new.nodes in
    let after = c.abort_wired.new.out in
    let e = c.abort_wired.ensures in
    let wires = plan_wires graph.plan graph.types in
    let stands : PlanStands node_standing graph.plan graph.types new after F = record { kept = s.plan.kept; same = e.same ∙ subst (λ ns. meanings node_standing ns ≡ plan_meanings graph.plan graph.types) (sym is) s.plan.same; family = s.plan.family; held = e.committed wires F (subst (λ ns. WiresStand node_standing ns graph.out wires F) (sym is) s.plan.held) } in
    record {
      plan = given_back node_standing graph.nodes lent new is e.same (λ ns. PlanStands node_standing graph.plan graph.types ns after F) stands;
      at_rest = λ _. given_back node_standing graph.nodes lent new is e.same (λ ns. AreAtRest node_standing ns after) e.at_rest;
    }
