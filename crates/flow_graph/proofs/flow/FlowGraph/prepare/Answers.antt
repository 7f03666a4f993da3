use Rattle.std.proofs.Common.{refl, sym, subst, ◌∙◌, true≢false}
use Rattle.flow_graph.specs.Nodes.{node_standing}
use Rattle.flow_graph.proofs.NodesLent.{given_back}
use Rattle.dataflow.specs.Wired.{AreAtRest}
use Rattle.flow_graph.specs.Plans.{PlanPends, PlanStands}
use Rattle.flow_graph.proofs.flow.FlowGraph.prepare.Goals as goal

pub prepare_plan-requires-clause-at_rest : goal.prepare_plan-requires-clause-at_rest
prepare_plan-requires-clause-at_rest g c =
    let graph = c.args.self.now in
    let lent = c.as_mut_slice-nodes.result.now in
    let is = c.as_mut_slice-nodes.ensures.value in
    subst (λ ns. AreAtRest node_standing ns graph.out) (sym is) (c.requires.inputs.1.1.0.at_rest c.requires.idle)

pub prepare_plan-requires-clause-inputs : goal.prepare_plan-requires-clause-inputs
prepare_plan-requires-clause-inputs g c =
    let graph = c.args.self.now in
    let lent = c.as_mut_slice-nodes.result.now in
    let is = c.as_mut_slice-nodes.ensures.value in
    let r = c.requires.inputs in
    let F = r.0 in let s = r.1.1.0 in
    (F, (r.1.0, (subst (λ ns. PlanStands node_standing graph.plan graph.types ns graph.out F) (sym is) s.plan, r.1.1.1)))

pub returns-in-Ok-clause-pending : goal.returns-in-Ok-clause-pending
returns-in-Ok-clause-pending g c F G s t =
    let graph = c.args.self.now in
    let lent = c.as_mut_slice-nodes.result.now in
    let is = c.as_mut_slice-nodes.ensures.value in
    let new = c.prepare_plan.new.nodes in
    let after = c.prepare_plan.new.out in
    let held = subst (λ ns. PlanStands node_standing graph.plan graph.types ns graph.out F) (sym is) s.plan in
    let pends = c.in-Ok.ensures.pending F G held t in
    record { flag = refl; plan = given_back node_standing graph.nodes lent new is (pends.same ∙ sym held.same) (λ ns. PlanPends node_standing graph.plan graph.types ns after G) pends }

pub returns-in-Ok-clause-committed : goal.returns-in-Ok-clause-committed
returns-in-Ok-clause-committed g c F s =
    let graph = c.args.self.now in
    let lent = c.as_mut_slice-nodes.result.now in
    let is = c.as_mut_slice-nodes.ensures.value in
    let new = c.prepare_plan.new.nodes in
    let after = c.prepare_plan.new.out in
    let held = subst (λ ns. PlanStands node_standing graph.plan graph.types ns graph.out F) (sym is) s.plan in
    let stands = c.in-Ok.ensures.committed F held in
    record {
      plan = given_back node_standing graph.nodes lent new is (stands.same ∙ sym held.same) (λ ns. PlanStands node_standing graph.plan graph.types ns after F) stands;
      at_rest = λ e. absurd (true≢false e);
    }

pub returns-in-Err-clause-range : goal.returns-in-Err-clause-range
returns-in-Err-clause-range g c i k F G s t =
    let graph = c.args.self.now in
    let lent = c.as_mut_slice-nodes.result.now in
    let is = c.as_mut_slice-nodes.ensures.value in
    c.in-Err.ensures.range i k F G (subst (λ ns. PlanStands node_standing graph.plan graph.types ns graph.out F) (sym is) s.plan) t

pub returns-in-Err-clause-committed : goal.returns-in-Err-clause-committed
returns-in-Err-clause-committed g c F s =
    let graph = c.args.self.now in
    let lent = c.as_mut_slice-nodes.result.now in
    let is = c.as_mut_slice-nodes.ensures.value in
    let new = c.prepare_plan.new.nodes in
    let after = c.prepare_plan.new.out in
    let held = subst (λ ns. PlanStands node_standing graph.plan graph.types ns graph.out F) (sym is) s.plan in
    let stands = c.in-Err.ensures.committed F held in
    record {
      plan = given_back node_standing graph.nodes lent new is (stands.same ∙ sym held.same) (λ ns. PlanStands node_standing graph.plan graph.types ns after F) stands;
      at_rest = λ _. given_back node_standing graph.nodes lent new is (stands.same ∙ sym held.same) (λ ns. AreAtRest node_standing ns after) c.in-Err.ensures.err;
    }

pub returns-in-Ok-clause-work : goal.returns-in-Ok-clause-work
returns-in-Ok-clause-work g c F G s t =
    let graph = c.args.self.now in
    let is = c.as_mut_slice-nodes.ensures.value in
    c.prepare_plan.ensures.work F G (subst (λ ns. PlanStands node_standing graph.plan graph.types ns graph.out F) (sym is) s.plan) t

pub returns-in-Err-clause-work : goal.returns-in-Err-clause-work
returns-in-Err-clause-work g c F G s t =
    let graph = c.args.self.now in
    let is = c.as_mut_slice-nodes.ensures.value in
    c.prepare_plan.ensures.work F G (subst (λ ns. PlanStands node_standing graph.plan graph.types ns graph.out F) (sym is) s.plan) t
