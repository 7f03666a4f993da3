use Rattle.std.proofs.Common.{◌<◌, ◌∙◌, List, Some, ap, arith, get_or, length, subst, sym, ℕ}
use lib.Seq.{map-set_same}
use Rattle.plan_model.specs.Evaluation.{Family}
use Rattle.plan_model.specs.Fits.{misfit}
use Rattle.plan_model.specs.declared.source_types.SourceType.{SourceType}
use Rattle.messages.specs.declared.refusal.Refusal.TheVariants as refusal
use Rattle.session_data.specs.FlowFaults.{IsMisfit}
use Rattle.request_machine.specs.Updates.{first_misfit}
use Rattle.session_data.specs.Planned.{MayTurnAll, plan_state}
use Rattle.dataflow.specs.declared.passes.GraphFault.{GraphFault}
use Rattle.session_data.specs.declared.plans.Planned.{Planned}
use Rattle.request_machine.proofs.Outcomes.{get_or-default}
use Rattle.session_data.proofs.PlanLoops.{PreparedBefore-more, all_hold, all_hold-but, all_prepared, is_first_misfit, name-states, steps_more}
use Rattle.session_data.proofs.plans.prepare_all.Goals as goal

pub prepare-requires : goal.prepare-requires
prepare-requires g c =
    let r = c.requires in
    let m = r.1.1.1 in
    let lt : c.loop-at.at < length c.loop-at.plans = omega (arith, c.loop-at-test.true, c.loop-at.auto.plans) in
    (r.0, (r.1.0, (r.1.1.0, (c.loop-at.invariant.prepared.after r.0 r.1.0 r.1.1.0 m c.loop-at.at c.index-plans-at.result (omega arith) lt, m.turns))))

pub returns-in-Err-Range-clause-states : goal.returns-in-Err-Range-clause-states
returns-in-Err-Range-clause-states g c =
    map-set_same plan_state c.loop-at.plans c.loop-at.at c.prepare.new.self c.index-plans-at.result c.prepare.ensures.state ∙ c.loop-at.invariant.prepared.states

pub returns-in-Err-Range-clause-held : goal.returns-in-Err-Range-clause-held
returns-in-Err-Range-clause-held g c =
    let lt : c.loop-at.at < length c.loop-at.plans = omega (arith, c.loop-at-test.true, c.loop-at.auto.plans) in
    all_hold-but c.args.source c.args.changes.now c.args.plans.now c.loop-at.plans c.loop-at.at c.loop-at.invariant.prepared c.prepare.new.self
    (λ types F G m. (c.in-Err-Range.ensures.err types F (c.loop-at.invariant.prepared.after types F G m c.loop-at.at c.index-plans-at.result (omega arith) lt)).holds)

pub returns-in-Err-Range-clause-range : goal.returns-in-Err-Range-clause-range
returns-in-Err-Range-clause-range g c = λ types F G m d.
    let plans = c.loop-at.plans in
    let at = c.loop-at.at in
    let before = c.loop-at.invariant.prepared in
    let lt : at < length plans = omega (arith, c.loop-at-test.true, c.loop-at.auto.plans) in
    let unfit = λ (ts : List SourceType) (F' G' : Family) (m' : MayTurnAll c.args.plans.now ts c.args.source c.args.changes.now F' G') (e : Planned).
    ap (λ (p : Planned). misfit p.plan ts G') (get_or-default plans at e c.index-plans-at.result lt)
    ∙ subst (λ (fault : GraphFault). IsMisfit (get_or plans at c.index-plans-at.result).plan ts G' fault) c.in-Err-Range.field-0-is
    (c.in-Err-Range.ensures.range ts F' G' (before.after ts F' G' m' at c.index-plans-at.result (omega arith) lt) m'.turns) in
    rw (c.in-Err-Range.step-is)
    (ap (first_misfit types G) (sym before.states)
    ∙ is_first_misfit c.args.source c.args.changes.now c.args.plans.now plans at before c.in-Err-Range.step lt unfit types F G m d
    ∙ ap (λ (name : List ℕ). Some (refusal.Range name c.in-Err-Range.step)) (name-states plans c.args.plans.now at d before.states))

pub returns-in-Err-Memory-clause-states : goal.returns-in-Err-Memory-clause-states
returns-in-Err-Memory-clause-states g c =
    map-set_same plan_state c.loop-at.plans c.loop-at.at c.prepare.new.self c.index-plans-at.result c.prepare.ensures.state ∙ c.loop-at.invariant.prepared.states

pub returns-in-Err-Memory-clause-held : goal.returns-in-Err-Memory-clause-held
returns-in-Err-Memory-clause-held g c =
    let lt : c.loop-at.at < length c.loop-at.plans = omega (arith, c.loop-at-test.true, c.loop-at.auto.plans) in
    all_hold-but c.args.source c.args.changes.now c.args.plans.now c.loop-at.plans c.loop-at.at c.loop-at.invariant.prepared c.prepare.new.self
    (λ types F G m. (c.in-Err-Memory.ensures.err types F (c.loop-at.invariant.prepared.after types F G m c.loop-at.at c.index-plans-at.result (omega arith) lt)).holds)

pub loop-at-preserved : goal.loop-at-preserved
loop-at-preserved g c =
    let lt : c.loop-at.at < length c.loop-at.plans = omega (arith, c.loop-at-test.true, c.loop-at.auto.plans) in
    let before = c.loop-at.invariant.prepared in
    record {
      prepared =
          PreparedBefore-more c.args.source c.args.changes.now c.args.plans.now c.loop-at.plans c.loop-at.at before c.prepare.new.self lt
          (c.prepare.ensures.state ∙ ap plan_state (get_or-default c.loop-at.plans c.loop-at.at c.index-plans-at.result c.prepare.new.self lt))
          (λ types F G m. c.in-Ok.ensures.ok types F G (before.after types F G m c.loop-at.at c.index-plans-at.result (omega arith) lt) m.turns);
      work = λ types F G m.
          steps_more c.args.source c.args.changes.now c.args.plans.now c.loop-at.plans c.loop-at.at before types F G m c.index-plans-at.result
          c.args.steps.now c.loop-at.steps c.prepare.new.steps lt (c.loop-at.invariant.work types F G m) c.prepare.ensures.work;
    }

pub returns-clause-ok : goal.returns-clause-ok
returns-clause-ok g c =
    all_prepared c.args.source c.args.changes.now c.args.plans.now c.loop-at.plans c.loop-at.at c.loop-at.invariant.prepared (omega (arith, c.loop-at-test.false, c.loop-at.auto.plans))

pub returns-clause-held : goal.returns-clause-held
returns-clause-held g c = all_hold c.args.source c.args.changes.now c.args.plans.now c.loop-at.plans c.loop-at.at c.loop-at.invariant.prepared

pub returns-clause-work : goal.returns-clause-work
returns-clause-work g c = λ types F G m. let done = c.loop-at.invariant.work types F G m in omega (arith, done)

pub returns-in-Err-Range-clause-work : goal.returns-in-Err-Range-clause-work
returns-in-Err-Range-clause-work g c = λ types F G m.
    let lt : c.loop-at.at < length c.loop-at.plans = omega (arith, c.loop-at-test.true, c.loop-at.auto.plans) in
    let done =
    steps_more c.args.source c.args.changes.now c.args.plans.now c.loop-at.plans c.loop-at.at c.loop-at.invariant.prepared types F G m
    c.index-plans-at.result c.args.steps.now c.loop-at.steps c.prepare.new.steps lt (c.loop-at.invariant.work types F G m) c.prepare.ensures.work in
    omega (arith, done)

pub returns-in-Err-Memory-clause-work : goal.returns-in-Err-Memory-clause-work
returns-in-Err-Memory-clause-work g c = λ types F G m.
    let lt : c.loop-at.at < length c.loop-at.plans = omega (arith, c.loop-at-test.true, c.loop-at.auto.plans) in
    let done =
    steps_more c.args.source c.args.changes.now c.args.plans.now c.loop-at.plans c.loop-at.at c.loop-at.invariant.prepared types F G m
    c.index-plans-at.result c.args.steps.now c.loop-at.steps c.prepare.new.steps lt (c.loop-at.invariant.work types F G m) c.prepare.ensures.work in
    omega (arith, done)
