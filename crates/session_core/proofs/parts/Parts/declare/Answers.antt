use Rattle.std.proofs.Common.{◌∙◌, ◌<◌, arith, length, sym}
use Rattle.messages.specs.declared.refusal.Refusal.TheVariants as refusal
use Rattle.messages.specs.declared.reply.Reply.TheVariants as reply
use Rattle.messages.specs.declared.thing.Thing.TheVariants as thing
use Rattle.request_machine.specs.Declarations.{declared}
use Rattle.request_machine.specs.State.{new_source}
use Rattle.request_machine.proofs.Outcomes.{declared_full, declared_new, declared_taken, no_place_is, place_is}
use Rattle.session_core.specs.Parts.{state_of}
use Rattle.session_core.proofs.ComesTo.{ComesTo-told}
use Rattle.session_core.proofs.parts.Parts.declare.Goals as goal

pub returns-then-is_some : goal.returns-then-is_some
returns-then-is_some c =
    let new = new_source c.args.name c.args.kinds c.args.signed c.args.budget in
    let found = place_is c.place_of.result c.if-is_some.ensures in
    ComesTo-told c.args.self.now c.refused.result (reply.Refused (refusal.Exists thing.Source c.args.name)) (declared (state_of c.args.self.now) new)
    c.requires.settled c.refused.ensures.reply c.refused.ensures.effect (declared_taken (state_of c.args.self.now) new found.0 (sym c.place_of.ensures ∙ found.1))

pub returns-then-len-ge-MAX_SOURCES : goal.returns-then-len-ge-MAX_SOURCES
returns-then-len-ge-MAX_SOURCES c =
    let new = new_source c.args.name c.args.kinds c.args.signed c.args.budget in
    let none = sym c.place_of.ensures ∙ no_place_is c.place_of.result c.if-is_some.ensures in
    let told = c.refused-then-len-ge-MAX_SOURCES in
    ComesTo-told c.args.self.now told.result (reply.Refused (refusal.Full thing.Source)) (declared (state_of c.args.self.now) new)
    c.requires.settled told.ensures.reply told.ensures.effect (declared_full (state_of c.args.self.now) new none (omega (arith, c.len.ensures, c.if-len-ge-MAX_SOURCES.true)))

pub returns : goal.returns
returns c =
    let new = new_source c.args.name c.args.kinds c.args.signed c.args.budget in
    let none = sym c.place_of.ensures ∙ no_place_is c.place_of.result c.if-is_some.ensures in
    let few : length c.args.self.now.sources.committed < 16 = omega (arith, c.len.ensures, c.if-len-ge-MAX_SOURCES.false) in
    record {
      ready = (c.requires.settled, record { nowhere = none; few = few }, c.requires.budget);
      leads = sym (declared_new (state_of c.args.self.now) new none few);
    }
