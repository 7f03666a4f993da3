use Rattle.std.proofs.Common.{◌<◌, ◌∙◌, ap, length, subst, sym}
use lib.ListN.{length-map}
use Rattle.messages.specs.declared.reply.Reply.TheVariants as reply
use Rattle.request_machine.specs.Named.{plan_name}
use Rattle.session_core.specs.Parts.{state_of}
use Rattle.session_data.specs.Planned.{IsSettled, plan_state, plan_states}
use Rattle.request_machine.specs.State.{family_of, types_of}
use Rattle.plan_model.specs.Evaluation.{eval}
use Rattle.request_machine.specs.Declarations.{columns_of}
use Rattle.request_machine.proofs.LookedUp.{looked_up-refused, looked_up-weights, plan_known, plan_unknown}
use Rattle.request_machine.proofs.Outcomes.{place_within}
use Rattle.session_data.proofs.PlanLoops.{state_here}
use Rattle.session_core.proofs.parts.Parts.exact_in_plan.Goals as goal

pub returns-in_default-clause-reply : goal.returns-in_default-clause-reply
returns-in_default-clause-reply g c = sym (plan_unknown (state_of c.args.self.now) c.args.name c.args.rows.now (sym c.in_default.ensures))

pub returns-in-Some-2-clause-reply : goal.returns-in-Some-2-clause-reply
returns-in-Some-2-clause-reply g c =
    let parts = c.args.self.now in
    let sources = parts.sources.committed in
    let plans = parts.plans.items in
    let planned = c.index-planned.result.now in
    let lt : c.in-Some.at < length plans = subst (λ n. c.in-Some.at < n) (length-map plans plan_state) (place_within plan_name c.args.name (plan_states plans) c.in-Some.at (sym c.in-Some.ensures)) in
    let held = subst (IsSettled (types_of sources) (family_of sources)) (sym c.index-planned.ensures) (c.requires.plans c.in-Some.at planned lt) in
    sym (plan_known (state_of parts) c.args.name c.args.rows.now c.in-Some.at (plan_state planned) (sym c.in-Some.ensures) (state_here plans c.in-Some.at planned lt c.index-planned.ensures)
    ∙ looked_up-refused parts.curator (columns_of sources planned.plan) (eval planned.plan (types_of sources) (family_of sources)) c.args.rows.now c.in-Some-2.refusal
    (rw (sym held.holds.cols) (sym c.in-Some-2.is ∙ c.in_ok-refusal.ensures)))

pub returns-clause-reply : goal.returns-clause-reply
returns-clause-reply g c =
    let parts = c.args.self.now in
    let sources = parts.sources.committed in
    let plans = parts.plans.items in
    let planned = c.index-planned.result.now in
    let lt : c.in-Some.at < length plans = subst (λ n. c.in-Some.at < n) (length-map plans plan_state) (place_within plan_name c.args.name (plan_states plans) c.in-Some.at (sym c.in-Some.ensures)) in
    let held = subst (IsSettled (types_of sources) (family_of sources)) (sym c.index-planned.ensures) (c.requires.plans c.in-Some.at planned lt) in
    ap reply.Weights (c.in_ok-weights.ensures.weights (types_of sources) (family_of sources) held.holds)
    ∙ sym (plan_known (state_of parts) c.args.name c.args.rows.now c.in-Some.at (plan_state planned) (sym c.in-Some.ensures) (state_here plans c.in-Some.at planned lt c.index-planned.ensures)
    ∙ looked_up-weights parts.curator (columns_of sources planned.plan) (eval planned.plan (types_of sources) (family_of sources)) c.args.rows.now
    (rw (sym held.holds.cols) (sym c.in_default-2.is ∙ c.in_ok-refusal.ensures)))
