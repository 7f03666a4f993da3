use Rattle.std.proofs.Common.{List, None, Ok, ap, ap₂, subst, ◌∙◌, length}
use Rattle.weighted_set.specs.Adding.{IsAddFault}
use Rattle.weighted_set.specs.declared.adding.AddFault.{AddFault}
use Rattle.messages.specs.declared.refusal.Refusal.TheVariants as refusal
use Rattle.messages.specs.declared.reply.Reply.TheVariants as reply
use Rattle.request_machine.specs.Updates.{added_at, first_misfit, updated_at}
use Rattle.session_core.specs.Parts.{state_of}
use Rattle.request_machine.specs.State.{SourceState, State, family_of, types_of}
use Rattle.session_core.specs.declared.parts.Parts.{Parts}
use Rattle.session_core.proofs.ComesTo.{Does-alike, Does-told}
use Rattle.session_core.proofs.Added.{ArePending-added, AreSettled-refused, added_allowed, added_below, added_out, state-refused, steps_added}
use Rattle.session_data.proofs.Turned.{somewhere}
use Rattle.session_core.proofs.parts.Parts.add.Goals as goal

pub follow-requires : goal.follow-requires
follow-requires g c =
    let there = somewhere c.args.self.now.sources.committed c.args.at c.requires.place in
    ArePending-added c.args.self.now c.prepare.new.self c.args.at there.0 c.args.added.now c.in-Ok.changes.items c.as_slice.result.now c.requires.settled there.1
    (c.requires.kinds there.0 there.1) (c.in-Ok.ensures.changes there.0 there.1) c.as_slice.ensures.value c.prepare.ensures.committed (c.in-Ok.ensures.pending there.0 there.1)

pub returns-in-Ok-clause-does : goal.returns-in-Ok-clause-does
returns-in-Ok-clause-does g c = λ source here.
    let old = c.args.self.now in
    let state = state_of old in
    let adding = c.in-Ok.ensures.changes source here in
    let turned = c.in-Ok.ensures.pending source here in
    Does-alike c.follow.result (record old { sources = c.prepare.new.self }) old c.follow.new.self _ _
    (state-refused old c.prepare.new.self c.prepare.ensures.committed)
    (ap₂ (λ (committed pending : List SourceState).
    let before : State = record state { sources = committed } in
    let after : State = record state { sources = pending } in
    updated_at None None (first_misfit (types_of pending) (family_of pending) state.plans) before after (length c.args.added.now)) c.prepare.ensures.committed turned
    ∙ added_allowed state c.args.at source c.args.added.now adding.in_range adding.allowed)
    c.follow.ensures.does

pub returns-in-Ok-clause-work : goal.returns-in-Ok-clause-work
returns-in-Ok-clause-work g c = λ source here.
    let adding = c.in-Ok.ensures.changes source here in
    steps_added c.args.self.now c.prepare.new.self c.args.at source c.args.added.now c.args.steps.now c.follow.new.steps adding.in_range adding.allowed
    c.prepare.ensures.committed (c.in-Ok.ensures.pending source here) c.follow.ensures.work

pub returns-in-Err-Range-clause-does : goal.returns-in-Err-Range-clause-does
returns-in-Err-Range-clause-does g c = λ source here.
    let old = c.args.self.now in
    let new : Parts = record old { sources = c.prepare.new.self } in
    let fault = subst (λ (e : AddFault). IsAddFault source.rows c.args.added.now source.signed e) c.in-Err-Range.field-0-is (c.in-Err-Range.ensures.err source here) in
    let same = state-refused old c.prepare.new.self c.prepare.ensures.committed in
    let is = added_out (state_of new) c.args.at source c.args.added.now c.in-Err-Range.at fault in
    let told = c.refused in
    Does-alike (Ok told.result) new old new (added_at (state_of new) c.args.at source c.args.added.now) _ same
    (ap (λ s. added_at s c.args.at source c.args.added.now) same)
    (Does-told new told.result (reply.Refused (refusal.RecordRange c.in-Err-Range.at)) _
    (AreSettled-refused old c.prepare.new.self c.requires.settled c.prepare.ensures.committed c.in-Err-Range.ensures.none_pending) told.ensures.reply told.ensures.effect is)

pub returns-in-Err-Negative-clause-does : goal.returns-in-Err-Negative-clause-does
returns-in-Err-Negative-clause-does g c = λ source here.
    let old = c.args.self.now in
    let new : Parts = record old { sources = c.prepare.new.self } in
    let fault = subst (λ (e : AddFault). IsAddFault source.rows c.args.added.now source.signed e) c.in-Err-Negative.field-0-is (c.in-Err-Negative.ensures.err source here) in
    let same = state-refused old c.prepare.new.self c.prepare.ensures.committed in
    let is = added_below (state_of new) c.args.at source c.args.added.now c.in-Err-Negative.at fault.0 fault.1 fault.2 in
    let told = c.refused-in-Err-Negative in
    Does-alike (Ok told.result) new old new (added_at (state_of new) c.args.at source c.args.added.now) _ same
    (ap (λ s. added_at s c.args.at source c.args.added.now) same)
    (Does-told new told.result (reply.Refused (refusal.Negative c.in-Err-Negative.at)) _
    (AreSettled-refused old c.prepare.new.self c.requires.settled c.prepare.ensures.committed c.in-Err-Negative.ensures.none_pending) told.ensures.reply told.ensures.effect is)

pub returns-in-Err-Memory-clause-does : goal.returns-in-Err-Memory-clause-does
returns-in-Err-Memory-clause-does g c = λ source here.
    let old = c.args.self.now in
    record {
      same = state-refused old c.prepare.new.self c.prepare.ensures.committed;
      done = AreSettled-refused old c.prepare.new.self c.requires.settled c.prepare.ensures.committed c.in-Err-Memory.ensures.none_pending;
    }
