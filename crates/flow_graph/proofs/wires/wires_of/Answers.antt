use Rattle.std.proofs.Common.{[], ◌∷◌, ◌++◌, ap, sym, ◌∙◌}
use Rattle.record_text.proofs.Lists.{map-front_more}
use Rattle.flow_graph.specs.Steps.{wire_of}
use Rattle.flow_graph.proofs.wires.wires_of.Goals as goal

pub loop-at-preserved : goal.loop-at-preserved
loop-at-preserved c =
    let types = c.args.types.now in
    c.in_ok-push.ensures.items ∙ ap (λ w. c.loop-at.wires.items ++ w ∷ []) c.wire_of.ensures ∙ ap (λ ws. ws ++ wire_of types c.step.result.now ∷ []) c.loop-at.invariant
    ∙ sym (map-front_more (wire_of types) c.args.plan.now c.loop-at.at c.step.result.now c.step.ensures)
