use Rattle.std.proofs.Common.{◌≡◌, ◌<◌, ◌∙◌, List, ap, arith, length, get_or, subst, sym, take}
use Rattle.plan_model.specs.declared.source_types.SourceType.{SourceType}
use Rattle.session_data.specs.Flow.{StandsFor}
use Rattle.session_data.specs.Planned.{Holds, IsSettled, plan_state}
use Rattle.request_machine.proofs.Outcomes.{get_or-default}
use Rattle.session_data.proofs.PlanLoops.{TurnedBefore-more, all_turned}
use Rattle.session_data.proofs.plans.abort_all.Goals as goal

pub loop-planned-preserved : goal.loop-planned-preserved
loop-planned-preserved c =
    let plans = c.loop-planned.plans in
    let at = c.loop-planned.planned-index in
    let item = c.planned-item.result in
    let lt : at < length plans = omega (arith, c.loop-planned-test.true, c.loop-planned.auto.plans) in
    TurnedBefore-more (λ types F G. Holds types F) (λ types F G. IsSettled types F) c.args.plans.now plans at _ lt c.loop-planned.invariant
    (ap plan_state (get_or-default plans at item _ lt))
    (λ types F G all.
    let p = get_or plans at item in
    let h = c.loop-planned.invariant.after types F G all at item (omega arith) lt in
    record {
      holds = record {
        accepted = h.accepted;
        fits = h.fits;
        size = h.size;
        same = c.abort.ensures.same.0 ∙ h.same;
        first = subst (λ (ts : List SourceType). take (length ts) types ≡ ts) (sym c.abort.ensures.same.1) h.first;
        stands = subst (λ (ts : List SourceType). StandsFor c.abort.new.self (take (length ts) F)) (sym c.abort.ensures.same.1) (c.abort.ensures.committed (take (length p.graph.types) F) h.stands);
        cols = h.cols;
        uses = h.uses;
      };
      idle = c.abort.ensures.idle;
    })

pub returns-clause-settled : goal.returns-clause-settled
returns-clause-settled c = λ types F all.
    all_turned (λ types F G. Holds types F) (λ types F G. IsSettled types F) c.args.plans.now c.loop-planned.plans c.loop-planned.planned-index
    (omega (arith, c.loop-planned-test.false, c.loop-planned.auto.plans)) c.loop-planned.invariant types F F all
