use Rattle.std.proofs.Common.{List, map}
use Rattle.weighted_set.specs.declared.weighted.Change.{Change}
use Rattle.dataflow.specs.Wiring.{wire_at}
use Rattle.dataflow.proofs.Stepping.{range_of, some_inputs, work_of}
use Rattle.dataflow.proofs.step.prepare_step.Goals as goal

pub prepare-requires-clause-inputs : goal.prepare-requires-clause-inputs
prepare-requires-clause-inputs g c =
    let wires = c.args.wires.now in
    let sources : List (List Change) = map (λ s. s.now) c.args.sources.now in
    let lists : List (List Change) = map (λ l. l.items) c.args.lists.now in
    some_inputs (g.N.Operator.standing c.args.node.now) wires sources lists (wire_at wires c.args.at) c.in-Of.left c.in-Of.right c.in-Of.is
    c.changes_at-left_list.result.now c.right_changes-right_list.result.now c.changes_at-left_list.ensures c.right_changes-right_list.ensures c.requires.inputs

pub returns-in-Of-clause-range : goal.returns-in-Of-clause-range
returns-in-Of-clause-range g c =
    let wires = c.args.wires.now in
    let sources : List (List Change) = map (λ s. s.now) c.args.sources.now in
    let lists : List (List Change) = map (λ l. l.items) c.args.lists.now in
    range_of (g.N.Operator.standing c.args.node.now) wires sources lists (wire_at wires c.args.at) c.in-Of.left c.in-Of.right c.in-Of.is
    c.changes_at-left_list.result.now c.right_changes-right_list.result.now c.changes_at-left_list.ensures c.right_changes-right_list.ensures c.prepare.result c.prepare.ensures.range

pub returns-in-Of-clause-work : goal.returns-in-Of-clause-work
returns-in-Of-clause-work g c =
    let wires = c.args.wires.now in
    let sources : List (List Change) = map (λ s. s.now) c.args.sources.now in
    let lists : List (List Change) = map (λ l. l.items) c.args.lists.now in
    work_of (g.N.Operator.standing c.args.node.now) wires sources lists (wire_at wires c.args.at) c.in-Of.left c.in-Of.right c.in-Of.is
    c.changes_at-left_list.result.now c.right_changes-right_list.result.now c.changes_at-left_list.ensures c.right_changes-right_list.ensures
    c.args.steps.now c.prepare.new.steps c.prepare.ensures.work
