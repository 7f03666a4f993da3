use Rattle.std.proofs.Common.{◌<◌, ◌∙◌, List, ap, arith, length, subst, sym}
use lib.ListN.{length-map}
use Rattle.messages.specs.declared.refusal.Refusal.TheVariants as refusal
use Rattle.messages.specs.declared.reply.Reply.TheVariants as reply
use Rattle.messages.specs.declared.thing.Thing.TheVariants as thing
use Rattle.plan_checker.specs.Checked.{IsChecked, IsPlanFault}
use Rattle.plan_checker.specs.declared.walk.PlanFault.{PlanFault}
use Rattle.plan_model.specs.Acceptance.{Fault, plan_fault_of}
use Rattle.plan_model.specs.declared.source_types.SourceType.{SourceType}
use Rattle.request_machine.specs.Declarations.{planned}
use Rattle.session_core.specs.Parts.{state_of}
use Rattle.session_data.specs.Planned.{plan_state, plan_states}
use Rattle.request_machine.specs.State.{new_plan}
use Rattle.request_machine.proofs.Outcomes.{no_place_is, place_is, planned_full, planned_taken}
use Rattle.session_core.proofs.ComesTo.{ComesTo-told}
use Rattle.session_core.proofs.NewPlans.{planned_faulty}
use Rattle.session_core.proofs.parts.Parts.plan.Goals as goal

pub returns-then-is_some : goal.returns-then-is_some
returns-then-is_some g c =
    let state = state_of c.args.self.now in
    let new = new_plan c.args.name c.args.plan in
    let found = place_is c.plan_place.result c.if-is_some.ensures in
    ComesTo-told c.args.self.now c.refused.result (reply.Refused (refusal.Exists thing.Plan c.args.name)) (planned state new)
    c.requires.settled c.refused.ensures.reply c.refused.ensures.effect (planned_taken state new found.0 (sym c.plan_place.ensures ∙ found.1))

pub returns-then-len-ge-MAX_PLANS : goal.returns-then-len-ge-MAX_PLANS
returns-then-len-ge-MAX_PLANS g c =
    let state = state_of c.args.self.now in
    let new = new_plan c.args.name c.args.plan in
    let none = sym c.plan_place.ensures ∙ no_place_is c.plan_place.result c.if-is_some.ensures in
    let told = c.refused-then-len-ge-MAX_PLANS in
    ComesTo-told c.args.self.now told.result (reply.Refused (refusal.Full thing.Plan)) (planned state new)
    c.requires.settled told.ensures.reply told.ensures.effect
    (planned_full state new none (omega (arith, c.len.ensures, c.if-len-ge-MAX_PLANS.true, c.args.self.now.plans.ok.0, length-map c.args.self.now.plans.items plan_state)))

pub build-requires-clause-checked : goal.build-requires-clause-checked
build-requires-clause-checked g c = subst (λ (types : List SourceType). IsChecked c.args.plan types c.in-Ok.checked) c.types.ensures c.in-Ok.ensures.ok

pub returns-in-Err-At : goal.returns-in-Err-At
returns-in-Err-At g c =
    let old = c.args.self.now in
    let new = new_plan c.args.name c.args.plan in
    let fault : Fault = record { step = c.in-Err-At.step; what = c.in-Err-At.what } in
    let none = sym c.plan_place.ensures ∙ no_place_is c.plan_place.result c.if-is_some.ensures in
    let few : length (plan_states old.plans.items) < 32 = omega (arith, c.len.ensures, c.if-len-ge-MAX_PLANS.false, old.plans.ok.0, length-map old.plans.items plan_state) in
    let faulty = subst (λ (e : PlanFault). IsPlanFault c.args.plan c.types.result.now e) c.in-Err-At.field-0-is c.in-Err-At.ensures.err in
    let told = c.refused-in-Err-At in
    ComesTo-told old told.result (reply.Refused (refusal.Plan c.in-Err-At.step c.in-Err-At.what)) (planned (state_of old) new) c.requires.settled
    (rw (c.in-Err-At.step-is, c.in-Err-At.what-is) at told.ensures.reply) told.ensures.effect
    (planned_faulty (state_of old) new fault (record { nowhere = none; few = few }) (ap (plan_fault_of c.args.plan) (sym c.types.ensures) ∙ faulty))
