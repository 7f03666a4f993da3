-- A source that the graph knows changes in the graph, and another changes nothing there.
use Rattle.std.proofs.Common.{◌≡◌, ◌<◌, ◌≤◌, ◌+◌, ◌*◌, ℕ, List, ap, ap₂, arith, subst, sym, take, length, ◌∙◌}
use Rattle.plan_model.specs.Fits.{misfit}
use Rattle.plan_model.specs.declared.step.Step.{Step}
use Rattle.plan_model.specs.declared.source_types.SourceType.{SourceType}
use Rattle.session_data.specs.Flow.{Becomes}
use Rattle.session_data.proofs.Becoming.{Becomes-pending, Holds-kept, IsPrepared-late, misfit-of_graph, turns_early}
use Rattle.session_data.proofs.FirstSources.{length-Keeps}
use Rattle.session_data.proofs.FirstWork.{plan_work-of_graph}
use Rattle.session_data.proofs.Misfits.{is_misfit}
use Rattle.session_data.proofs.PlanSteps.{IfErr-map, OnErr-map, OnOk-map}
use Rattle.session_data.proofs.plans.Planned.prepare.Goals as goal

pub returns-then-source-source_count-clause-ok : goal.returns-then-source-source_count-clause-ok
returns-then-source-source_count-clause-ok g c types F G h turns = IsPrepared-late types c.args.source c.args.changes.now F G c.args.self.now h turns (subst (λ n. n ≤ c.args.source) c.source_count.ensures c.if-source-source_count.true)

pub prepare-requires-clause-idle : goal.prepare-requires-clause-idle
prepare-requires-clause-idle g c = c.requires.1.1.1.0.idle

pub prepare-requires-clause-inputs : goal.prepare-requires-clause-inputs
prepare-requires-clause-inputs g c =
    let r = c.requires in
    let types = r.0 in let F = r.1.0 in let G = r.1.1.0 in let h = r.1.1.1.0 in
    let n = length c.args.self.now.graph.types in
    (take n F, (take n G, (h.holds.stands, turns_early types c.args.source c.args.changes.now F G c.args.self.now h r.1.1.1.1 (subst (λ n. c.args.source < n) c.source_count.ensures c.if-source-source_count.false))))

pub returns-clause-ok : goal.returns-clause-ok
returns-clause-ok g c =
    OnOk-map c.prepare.result (λ turned types F G h turns.
    let planned = c.args.self.now in
    let graph = planned.graph in
    let n = length graph.types in
    let pends = turned (take n F) (take n G) h.holds.stands (turns_early types c.args.source c.args.changes.now F G planned h turns (subst (λ n. c.args.source < n) c.source_count.ensures c.if-source-source_count.false)) in
    let e = c.prepare.ensures in
    record {
      holds = Holds-kept types F planned c.prepare.new.self e.same e.committed h.holds;
      fits = misfit-of_graph types F planned h.holds G (length-Keeps types G turns.keeps)
          ∙ ap₂ (λ (plan : List Step) (ts : List SourceType). misfit plan ts (take n G)) (sym e.same.0) (sym e.same.1) ∙ pends.plan.family.fits;
      size = length-Keeps types G turns.keeps;
      becomes = subst (λ (ts : List SourceType). Becomes c.prepare.new.self (take (length ts) G)) (sym e.same.1) (Becomes-pending c.prepare.new.self (take n G) pends);
    }) c.prepare.ensures.pending

pub returns-clause-err : goal.returns-clause-err
returns-clause-err g c =
    OnErr-map c.prepare.result (λ idle types F h. record {
      holds = Holds-kept types F c.args.self.now c.prepare.new.self c.prepare.ensures.same c.prepare.ensures.committed h.holds;
      idle = idle;
    }) c.prepare.ensures.err

pub returns-clause-range : goal.returns-clause-range
returns-clause-range g c =
    IfErr-map c.prepare.result (λ e told types F G h turns.
    let planned = c.args.self.now in
    let n = length planned.graph.types in
    is_misfit e planned.plan types G (λ i is.
    misfit-of_graph types F planned h.holds G (length-Keeps types G turns.keeps)
    ∙ told i is (take n F) (take n G) h.holds.stands (turns_early types c.args.source c.args.changes.now F G planned h turns (subst (λ n. c.args.source < n) c.source_count.ensures c.if-source-source_count.false))))
    c.prepare.ensures.range

pub returns-clause-work : goal.returns-clause-work
returns-clause-work g c types F G h turns =
    let planned = c.args.self.now in
    let n = length planned.graph.types in
    subst (λ (work : ℕ). c.prepare.new.steps ≤ c.args.steps.now + (8 * work + 8))
    (sym (plan_work-of_graph types F G planned h.holds (length-Keeps types G turns.keeps)))
    (c.prepare.ensures.work (take n F) (take n G) h.holds.stands
    (turns_early types c.args.source c.args.changes.now F G planned h turns (subst (λ m. c.args.source < m) c.source_count.ensures c.if-source-source_count.false)))
