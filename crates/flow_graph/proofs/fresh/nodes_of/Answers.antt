-- Each step passes its checks, and its node and its columns are put after those before.
use Rattle.std.proofs.Common.{◌≡◌, ◌∙◌, true, [], length, ap, arith, subst, sym}
use Rattle.plan_model.proofs.Plans.{step_of_plan}
use Rattle.plan_model.specs.Acceptance.{is_narrow, step_has_columns, step_has_kinds}
use Rattle.plan_model.specs.Limits.{is_step}
use Rattle.plan_model.specs.Types.{columns_step}
use Rattle.flow_graph.specs.Nodes.{node_standing}
use Rattle.flow_graph.proofs.Building.{AreBuilt-more, AreBuilt-start, AreFresh-built, length-columns, narrow-of_steps}
use Rattle.flow_graph.proofs.Fronts.{Passes-at}
use Rattle.flow_graph.proofs.PlanGraphs.{columns-of_steps, kinds-of_steps}
use Rattle.flow_graph.proofs.fresh.nodes_of.Goals as goal

pub loop-at-init : goal.loop-at-init
loop-at-init c = AreBuilt-start node_standing c.args.plan.now c.args.types.now c.requires _ _ c.new-nodes.ensures.items c.new-columns.ensures.items

pub node_of-requires-clause-step : goal.node_of-requires-clause-step
node_of-requires-clause-step c =
    let size = length-columns node_standing c.args.plan.now c.args.types.now c.requires _ _ c.loop-at.at c.loop-at.invariant c.step-step.result.now c.step-step.ensures in
    subst (λ k. is_step k c.step-step.result.now ≡ true) (sym (ap length c.as_slice.ensures.value ∙ size)) (step_of_plan c.args.plan.now c.loop-at.at c.step-step.result.now c.step-step.ensures c.requires.steps)

pub node_of-requires-clause-columns : goal.node_of-requires-clause-columns
node_of-requires-clause-columns c =
    let passes = Passes-at c.args.types.now [] c.args.plan.now c.loop-at.at c.step-step.result.now c.requires.accepted c.step-step.ensures in
    columns-of_steps c.args.types.now c.step-step.result.now c.as_slice.result.now
    (subst (λ cs. step_has_columns c.args.types.now c.step-step.result.now cs ≡ true) (sym (c.as_slice.ensures.value ∙ c.loop-at.invariant.of_columns)) passes.within_width)

pub node_of-requires-clause-kinds : goal.node_of-requires-clause-kinds
node_of-requires-clause-kinds c =
    let passes = Passes-at c.args.types.now [] c.args.plan.now c.loop-at.at c.step-step.result.now c.requires.accepted c.step-step.ensures in
    kinds-of_steps c.args.types.now c.step-step.result.now c.as_slice.result.now
    (subst (λ cs. step_has_kinds c.args.types.now c.step-step.result.now cs ≡ true) (sym (c.as_slice.ensures.value ∙ c.loop-at.invariant.of_columns)) passes.right_kinds)

pub node_of-requires-clause-narrow : goal.node_of-requires-clause-narrow
node_of-requires-clause-narrow c =
    let passes = Passes-at c.args.types.now [] c.args.plan.now c.loop-at.at c.step-step.result.now c.requires.accepted c.step-step.ensures in
    narrow-of_steps c.args.types.now c.step-step.result.now c.as_slice.result.now
    (subst (λ cs. is_narrow c.args.types.now c.step-step.result.now cs ≡ true) (sym (c.as_slice.ensures.value ∙ c.loop-at.invariant.of_columns)) passes.narrow)

pub columns_of-cols-requires-clause-step : goal.columns_of-cols-requires-clause-step
columns_of-cols-requires-clause-step c =
    let size = length-columns node_standing c.args.plan.now c.args.types.now c.requires _ _ c.loop-at.at c.loop-at.invariant c.step-step.result.now c.step-step.ensures in
    subst (λ k. is_step k c.step-step.result.now ≡ true) (sym (ap length c.as_slice-in-loop-at.ensures.value ∙ size)) (step_of_plan c.args.plan.now c.loop-at.at c.step-step.result.now c.step-step.ensures c.requires.steps)

pub columns_of-cols-requires-clause-known : goal.columns_of-cols-requires-clause-known
columns_of-cols-requires-clause-known c = (Passes-at c.args.types.now [] c.args.plan.now c.loop-at.at c.step-step.result.now c.requires.accepted c.step-step.ensures).known_source

pub columns_of-cols-requires-clause-columns : goal.columns_of-cols-requires-clause-columns
columns_of-cols-requires-clause-columns c =
    subst (λ cs. step_has_columns c.args.types.now c.step-step.result.now cs ≡ true) (sym (c.as_slice-in-loop-at.ensures.value ∙ c.loop-at.invariant.of_columns))
    (Passes-at c.args.types.now [] c.args.plan.now c.loop-at.at c.step-step.result.now c.requires.accepted c.step-step.ensures).within_width

pub columns_of-cols-requires-clause-narrow : goal.columns_of-cols-requires-clause-narrow
columns_of-cols-requires-clause-narrow c =
    subst (λ cs. is_narrow c.args.types.now c.step-step.result.now cs ≡ true) (sym (c.as_slice-in-loop-at.ensures.value ∙ c.loop-at.invariant.of_columns))
    (Passes-at c.args.types.now [] c.args.plan.now c.loop-at.at c.step-step.result.now c.requires.accepted c.step-step.ensures).narrow

pub loop-at-preserved : goal.loop-at-preserved
loop-at-preserved c =
    AreBuilt-more node_standing c.args.plan.now c.args.types.now c.requires _ _ c.loop-at.at c.loop-at.invariant c.step-step.result.now c.step-step.ensures
    c.in_ok-node.node c.push.new.self.items c.as_slice.result.now c.push-in-loop-at.new.self.items c.columns_of-cols.result
    c.as_slice.ensures.value c.in_ok-node.ensures c.in_ok-push.ensures.items
    (c.columns_of-cols.ensures ∙ ap (columns_step c.args.types.now c.step-step.result.now) c.as_slice-in-loop-at.ensures.value) c.in_ok-push-2.ensures.items

pub returns : goal.returns
returns c = AreFresh-built node_standing c.args.plan.now c.args.types.now c.requires _ _ c.loop-at.at c.loop-at.invariant (let size = c.len-at-end.ensures.value in omega arith)
