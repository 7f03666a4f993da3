use Rattle.std.proofs.Common.{sym}
use Rattle.messages.specs.declared.refusal.Refusal.TheVariants as refusal
use Rattle.messages.specs.declared.reply.Reply.TheVariants as reply
use Rattle.messages.specs.declared.thing.Thing.TheVariants as thing
use Rattle.request_machine.specs.Declarations.{dropped}
use Rattle.request_machine.specs.Named.{plan_name}
use Rattle.request_machine.proofs.Outcomes.{dropped_known, dropped_unknown, place_within}
use Rattle.session_core.specs.Parts.{state_of}
use Rattle.session_core.proofs.ComesTo.{ComesTo-told}
use Rattle.session_core.proofs.parts.Parts.drop_plan.Goals as goal

pub returns-in-Some : goal.returns-in-Some
returns-in-Some c =
    let state = state_of c.args.self.now in
    record {
      ready = (c.requires, place_within plan_name c.args.name state.plans c.in-Some.at (sym c.in-Some.ensures));
      leads = sym (dropped_known state c.args.name c.in-Some.at (sym c.in-Some.ensures));
    }

pub returns-in-None : goal.returns-in-None
returns-in-None c =
    ComesTo-told c.args.self.now c.refused.result (reply.Refused (refusal.Unknown thing.Plan c.args.name)) (dropped (state_of c.args.self.now) c.args.name)
    c.requires c.refused.ensures.reply c.refused.ensures.effect (dropped_unknown (state_of c.args.self.now) c.args.name (sym c.in-None.ensures))
