use Rattle.std.proofs.Common.{ℕ, ◌≤◌, ◌+◌, List, Err, ap, arith, refl, subst, sym}
use Rattle.std.proofs.lemmas.Option.{get_or_from_slice_get}
use Rattle.csv_changes.specs.Changes.{changes_of}
use Rattle.std.specs.Prelude.{IsTrue}
use Rattle.io_edge.specs.Path.{is_path}
use Rattle.plan_model.specs.declared.source_types.SourceType.{SourceType}
use Rattle.messages.specs.declared.refusal.Refusal.TheVariants as refusal
use Rattle.messages.specs.declared.reply.Reply.{Reply}
use Rattle.messages.specs.declared.reply.Reply.TheVariants as reply
use Rattle.messages.specs.declared.thing.Thing.TheVariants as thing
use Rattle.request_machine.specs.Fetches.{Content, Failed, Long, Missing}
use Rattle.request_machine.specs.Loads.{loaded}
use Rattle.request_machine.specs.Named.{source_name}
use Rattle.request_machine.specs.State.{State}
use Rattle.request_machine.specs.Updates.{updated_by}
use Rattle.session_core.specs.Parts.{state_of}
use Rattle.session_core.specs.Work.{outcome_steps, without_plans}
use Rattle.request_machine.proofs.Loading.{Fetches-long, loaded_known, loaded_unknown}
use Rattle.request_machine.proofs.Outcomes.{place_within}
use Rattle.session_data.proofs.Turned.{somewhere, type_here}
use Rattle.session_core.proofs.ComesTo.{Does-alike, Does-told}
use Rattle.session_core.proofs.Fetched.{Does-no_file, FetchesAnd-any}
use Rattle.session_core.proofs.parts.Parts.load.Goals as goal

pub returns-in_default-clause-loaded : goal.returns-in_default-clause-loaded
returns-in_default-clause-loaded g c =
    let old = c.args.self.now in
    let told = c.refused in
    FetchesAnd-any _ _ _ _ _ (omega arith) (λ fetched. (
      Does-told old told.result (reply.Refused (refusal.Unknown thing.Source c.args.name)) (loaded (state_of old) c.args.name c.args.header fetched)
          c.requires.settled told.ensures.reply told.ensures.effect (loaded_unknown (state_of old) c.args.name c.args.header fetched (sym c.in_default.ensures)),
      omega arith,
    ))

pub fetch-requires-clause-path : goal.fetch-requires-clause-path
fetch-requires-clause-path g c = subst (λ (path : List ℕ). IsTrue (is_path path)) (sym c.as_slice.ensures) ((c.law_path.ensures c.args.path.now).1 c.requires.path)

pub add_read-requires-clause-settled : goal.add_read-requires-clause-settled
add_read-requires-clause-settled g c = c.requires.settled

pub add_read-requires-clause-kinds : goal.add_read-requires-clause-kinds
add_read-requires-clause-kinds g c = λ source here.
    let typed = type_here c.args.self.now.sources.committed c.in-Some.at source c.source_type-kinds.result here c.source_type-kinds.ensures in
    rw (ap (λ (t : SourceType). t.kinds) typed) c.read_changes-read.ensures.kinds

pub returns-in-Ok-clause-loaded : goal.returns-in-Ok-clause-loaded
returns-in-Ok-clause-loaded g c =
    let old = c.args.self.now in
    let sources = old.sources.committed in
    let at = c.in-Some.at in
    let there = somewhere sources at (place_within source_name c.args.name sources at (sym c.in-Some.ensures)) in
    let typed = type_here sources at there.0 c.source_type-kinds.result there.1 c.source_type-kinds.ensures in
    let fetched = Content c.fetch.new.into.items in
    let changes = changes_of c.fetch.new.into.items there.0.kinds c.args.header in
    let here = sym c.in-Some.ensures in
    let is = sym (get_or_from_slice_get sources at there.0 there.0 there.1) in
    let state = state_of old in
    record {
      fetched = fetched;
      may_fetch = rw c.as_slice.ensures at c.in-Ok.ensures.gives;
      later = c.in-Ok.ensures.cause.later;
      failed = λ f. cc;
      holds = (
        Does-alike c.add_read.result old old c.add_read.new.self (updated_by state at there.0 changes) (loaded state c.args.name c.args.header fetched) refl
            (sym (loaded_known state c.args.name c.args.header fetched at there.0 here is))
            (c.add_read.ensures.does there.0 there.1 changes
            (rw (ap (λ (t : SourceType). t.kinds) typed, sym c.as_slice-in-Ok.ensures.value) c.read_changes-read.ensures.value)),
        subst (λ (outcome : State × Reply). c.add_read.new.steps ≤ c.args.steps.now + outcome_steps state outcome)
            (sym (loaded_known (without_plans state) c.args.name c.args.header fetched at there.0 here is))
            (c.add_read.ensures.work there.0 there.1 changes
            (rw (ap (λ (t : SourceType). t.kinds) typed, sym c.as_slice-in-Ok.ensures.value) c.read_changes-read.ensures.value)),
      );
    }

pub returns-in-Err-Failed-clause-loaded : goal.returns-in-Err-Failed-clause-loaded
returns-in-Err-Failed-clause-loaded g c =
    let told = c.refused-in-Err-Failed in
    record {
      fetched = Failed;
      may_fetch = tt;
      later = c.in-Err-Failed.ensures.cause.later;
      failed = λ f. c.in-Err-Failed.ensures.cause.failed (ap Err c.in-Err-Failed.field-0-is);
      holds = (
        Does-no_file c.args.self.now c.args.name c.args.header Failed c.in-Some.at told.result refusal.File c.requires.settled (sym c.in-Some.ensures) (λ source. refl)
            told.ensures.reply told.ensures.effect,
        omega arith,
      );
    }

pub returns-in-Err-Missing-clause-loaded : goal.returns-in-Err-Missing-clause-loaded
returns-in-Err-Missing-clause-loaded g c =
    let told = c.refused-in-Err-Missing in
    record {
      fetched = Missing;
      may_fetch = (rw (c.in-Err-Missing.field-0-is, c.as_slice.ensures) at c.in-Err-Missing.ensures.gives).1;
      later = c.in-Err-Missing.ensures.cause.later;
      failed = λ f. cc;
      holds = (
        Does-no_file c.args.self.now c.args.name c.args.header Missing c.in-Some.at told.result refusal.FileMissing c.requires.settled (sym c.in-Some.ensures) (λ source. refl)
            told.ensures.reply told.ensures.effect,
        omega arith,
      );
    }

pub returns-in-Err-Long-clause-loaded : goal.returns-in-Err-Long-clause-loaded
returns-in-Err-Long-clause-loaded g c =
    let told = c.refused-in-Err-Long in
    record {
      fetched = Long;
      may_fetch = Fetches-long _ _ _ _ (rw (c.in-Err-Long.field-0-is, c.as_slice.ensures) at c.in-Err-Long.ensures.gives);
      later = c.in-Err-Long.ensures.cause.later;
      failed = λ f. cc;
      holds = (
        Does-no_file c.args.self.now c.args.name c.args.header Long c.in-Some.at told.result refusal.FileLong c.requires.settled (sym c.in-Some.ensures) (λ source. refl)
            told.ensures.reply told.ensures.effect,
        omega arith,
      );
    }

pub returns-clause-loaded : goal.returns-clause-loaded
returns-clause-loaded g c =
    FetchesAnd-any _ _ _ _ _ c.in-Err-Memory.ensures.cause.later (λ fetched.
    (record { same = refl; done = c.requires.settled }, omega arith))
