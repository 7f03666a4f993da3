use Rattle.std.proofs.Common.{◌≤◌, ◌+◌, ap, refl, subst, sym}
use Rattle.std.proofs.lemmas.Option.{get_or_from_slice_get}
use Rattle.csv_changes.specs.Changes.{changes_of}
use Rattle.plan_model.specs.declared.source_types.SourceType.{SourceType}
use Rattle.messages.specs.declared.refusal.Refusal.TheVariants as refusal
use Rattle.messages.specs.declared.reply.Reply.{Reply}
use Rattle.messages.specs.declared.reply.Reply.TheVariants as reply
use Rattle.request_machine.specs.State.{State}
use Rattle.messages.specs.declared.thing.Thing.TheVariants as thing
use Rattle.request_machine.specs.Updates.{updated, updated_by}
use Rattle.request_machine.specs.Named.{source_name}
use Rattle.session_core.specs.Parts.{state_of}
use Rattle.session_core.specs.Work.{outcome_steps, without_plans}
use Rattle.session_core.proofs.ComesTo.{Does-alike, Does-told}
use Rattle.request_machine.proofs.Outcomes.{place_within, updated_known, updated_unknown}
use Rattle.session_data.proofs.Turned.{somewhere, type_here}
use Rattle.session_core.proofs.parts.Parts.update.Goals as goal

pub returns-in_default-clause-does : goal.returns-in_default-clause-does
returns-in_default-clause-does g c =
    let old = c.args.self.now in
    let told = c.refused in
    Does-told old told.result (reply.Refused (refusal.Unknown thing.Source c.args.name)) (updated (state_of old) c.args.name c.args.csv.now c.args.header)
    c.requires told.ensures.reply told.ensures.effect (updated_unknown (state_of old) c.args.name c.args.csv.now c.args.header (sym c.in_default.ensures))

pub add_read-requires-clause-kinds : goal.add_read-requires-clause-kinds
add_read-requires-clause-kinds g c = λ source here.
    let typed = type_here c.args.self.now.sources.committed c.in-Some.at source c.source_type-kinds.result here c.source_type-kinds.ensures in
    rw (ap (λ (t : SourceType). t.kinds) typed) c.read_changes-read.ensures.kinds

pub returns-clause-does : goal.returns-clause-does
returns-clause-does g c =
    let old = c.args.self.now in
    let sources = old.sources.committed in
    let at = c.in-Some.at in
    let there = somewhere sources at (place_within source_name c.args.name sources at (sym c.in-Some.ensures)) in
    let typed = type_here sources at there.0 c.source_type-kinds.result there.1 c.source_type-kinds.ensures in
    let changes = changes_of c.args.csv.now there.0.kinds c.args.header in
    Does-alike c.add_read.result old old c.add_read.new.self (updated_by (state_of old) at there.0 changes) (updated (state_of old) c.args.name c.args.csv.now c.args.header) refl
    (sym (updated_known (state_of old) c.args.name c.args.csv.now c.args.header at there.0 (sym c.in-Some.ensures) (sym (get_or_from_slice_get sources at there.0 there.0 there.1))))
    (c.add_read.ensures.does there.0 there.1 changes
    (rw (ap (λ (t : SourceType). t.kinds) typed, sym c.as_slice.ensures) c.read_changes-read.ensures.value))

pub returns-clause-work : goal.returns-clause-work
returns-clause-work g c =
    let state = state_of c.args.self.now in
    let sources = state.sources in
    let at = c.in-Some.at in
    let there = somewhere sources at (place_within source_name c.args.name sources at (sym c.in-Some.ensures)) in
    let typed = type_here sources at there.0 c.source_type-kinds.result there.1 c.source_type-kinds.ensures in
    let changes = changes_of c.args.csv.now there.0.kinds c.args.header in
    subst (λ (outcome : State × Reply). c.add_read.new.steps ≤ c.args.steps.now + outcome_steps state outcome)
    (sym (updated_known (without_plans state) c.args.name c.args.csv.now c.args.header at there.0 (sym c.in-Some.ensures) (sym (get_or_from_slice_get sources at there.0 there.0 there.1))))
    (c.add_read.ensures.work there.0 there.1 changes
    (rw (ap (λ (t : SourceType). t.kinds) typed, sym c.as_slice.ensures) c.read_changes-read.ensures.value))
