use Rattle.std.proofs.Common.{List, ap, subst, ◌∙◌}
use Rattle.dataflow.specs.Evaluation.{last_output}
use Rattle.dataflow.specs.Outputs.{HoldRows}
use Rattle.weighted_set.specs.Parts.{committed_part}
use Rattle.weighted_set.specs.Standing.{Meaning}
use Rattle.plan_model.specs.Evaluation.{eval}
use Rattle.flow_graph.proofs.PlanGraphs.{last_output-eval}
use Rattle.flow_graph.specs.Steps.{plan_wires}
use Rattle.flow_graph.proofs.flow.FlowGraph.weight.Goals as goal

pub returns-clause-weight : goal.returns-clause-weight
returns-clause-weight g c F s =
    let graph = c.args.self.now in
    c.row_weight.ensures.weight (eval graph.plan graph.types F)
    (subst (HoldRows (committed_part graph.out)) (ap (λ (ms : List Meaning). last_output ms (plan_wires graph.plan graph.types) F) s.plan.same ∙ last_output-eval graph.plan graph.types s.plan.kept F) s.plan.held.output)
