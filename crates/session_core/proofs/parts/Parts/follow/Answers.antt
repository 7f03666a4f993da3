use Rattle.std.proofs.Common.{List, None, Ok, Option, Some, ap, refl, subst, sym, ◌∙◌, ℕ}
use Rattle.std.specs.Vec.{with_items}
use Rattle.plan_model.specs.declared.source_types.SourceType.{SourceType}
use Rattle.messages.specs.declared.refusal.Refusal.{Refusal}
use Rattle.messages.specs.declared.refusal.Refusal.TheVariants as refusal
use Rattle.messages.specs.declared.reply.Reply.{Reply}
use Rattle.messages.specs.declared.reply.Reply.TheVariants as reply
use Rattle.request_machine.specs.Updates.{first_misfit, updated_at}
use Rattle.session_core.specs.Parts.{state_of}
use Rattle.session_core.proofs.ComesTo.{Does-alike, Does-told}
use Rattle.session_data.specs.Planned.{Holds, IsFirstMisfit, IsPrepared, plan_states}
use Rattle.request_machine.specs.State.{PlanState, SourceState, State, family_of, types_of}
use Rattle.session_data.specs.declared.plans.Planned.{Planned}
use Rattle.session_data.specs.declared.plans.PlansFault.{PlansFault}
use Rattle.session_data.proofs.PlanLoops.{name-states}
use Rattle.session_core.proofs.Aborted.{All-replaced, AreKept-same, states_are}
use Rattle.session_core.proofs.Followed.{follow_ok, follow_within, may_turn}
use Rattle.session_core.proofs.parts.Parts.follow.Goals as goal

pub prepare_all-requires : goal.prepare_all-requires
prepare_all-requires g c =
    let sources = c.args.self.now.sources in (
      types_of sources.committed,
      (family_of sources.committed, (family_of sources.pending, may_turn c.args.self.now c.args.at c.args.changes.now c.as_mut_slice.result.now c.requires c.as_mut_slice.ensures.value)),
    )

pub abort-requires : goal.abort-requires
abort-requires g c =
    let sources = c.args.self.now.sources in
    record {
      kept = AreKept-same c.args.self.now sources c.prepare_all.new.plans c.requires.kept (c.in-Err-Range.ensures.states ∙ ap plan_states c.as_mut_slice.ensures.value);
      plans =
          All-replaced c.args.self.now sources c.prepare_all.new.plans c.requires.kept (c.in-Err-Range.ensures.states ∙ ap plan_states c.as_mut_slice.ensures.value)
          (Holds (types_of sources.committed) (family_of sources.committed))
          (c.in-Err-Range.ensures.held (types_of sources.committed) (family_of sources.committed) (family_of sources.pending)
          (may_turn c.args.self.now c.args.at c.args.changes.now c.as_mut_slice.result.now c.requires c.as_mut_slice.ensures.value));
    }

pub abort-requires-in-Err-Memory : goal.abort-requires-in-Err-Memory
abort-requires-in-Err-Memory g c =
    let sources = c.args.self.now.sources in
    record {
      kept = AreKept-same c.args.self.now sources c.prepare_all.new.plans c.requires.kept (c.in-Err-Memory.ensures.states ∙ ap plan_states c.as_mut_slice.ensures.value);
      plans =
          All-replaced c.args.self.now sources c.prepare_all.new.plans c.requires.kept (c.in-Err-Memory.ensures.states ∙ ap plan_states c.as_mut_slice.ensures.value)
          (Holds (types_of sources.committed) (family_of sources.committed))
          (c.in-Err-Memory.ensures.held (types_of sources.committed) (family_of sources.committed) (family_of sources.pending)
          (may_turn c.args.self.now c.args.at c.args.changes.now c.as_mut_slice.result.now c.requires c.as_mut_slice.ensures.value));
    }

pub returns-in-Ok-clause-does : goal.returns-in-Ok-clause-does
returns-in-Ok-clause-does g c =
    let old = c.args.self.now in
    let sources = old.sources in
    let state = state_of old in
    let turned : State = record state { sources = sources.pending } in
    let states = c.in-Ok.ensures.states ∙ ap plan_states c.as_mut_slice.ensures.value in
    let prepared = c.in-Ok.ensures.ok (types_of sources.committed) (family_of sources.committed) (family_of sources.pending)
    (may_turn old c.args.at c.args.changes.now c.as_mut_slice.result.now c.requires c.as_mut_slice.ensures.value) in
    let there = states_are old sources c.prepare_all.new.plans c.requires.kept states in
    let with_plans : List PlanState → List SourceState → State = λ ps ss. record { curator = state.curator; sources = ss; plans = ps } in
    record {
      same = ap (λ ps. with_plans ps sources.committed) there;
      done = record {
        ready = record {
          kept = AreKept-same old sources c.prepare_all.new.plans c.requires.kept states;
          plans =
              All-replaced old sources c.prepare_all.new.plans c.requires.kept states
              (IsPrepared (types_of sources.committed) (family_of sources.committed) (family_of sources.pending)) prepared;
          turn = c.requires.turn;
        };
        leads =
            ap (λ (ps : List PlanState). let outcome : State × Reply = (with_plans ps sources.pending, reply.Records c.args.count) in outcome) there
            ∙ sym (ap (λ (o : Option Refusal). updated_at None None o state turned c.args.count) (follow_ok old c.prepare_all.new.plans c.requires.turn.types states prepared));
      };
    }

pub returns-in-Err-Range-clause-does : goal.returns-in-Err-Range-clause-does
returns-in-Err-Range-clause-does g c =
    let old = c.args.self.now in
    let sources = old.sources in
    let types = types_of sources.committed in
    let G = family_of sources.pending in
    let state = state_of old in
    let turned : State = record state { sources = sources.pending } in
    let slice = c.as_mut_slice.result.now in
    let states = c.in-Err-Range.ensures.states ∙ ap plan_states c.as_mut_slice.ensures.value in
    let there = states_are old sources c.prepare_all.new.plans c.requires.kept states in
    let planned = c.index.result.now in
    let why = refusal.Range planned.name c.in-Err-Range.step in
    let first =
    subst (λ (fault : PlansFault). IsFirstMisfit slice types G fault) c.in-Err-Range.field-0-is
    (c.in-Err-Range.ensures.range types (family_of sources.committed) G (may_turn old c.args.at c.args.changes.now slice c.requires c.as_mut_slice.ensures.value)) in
    let named =
    name-states slice (with_items old.plans c.prepare_all.new.plans).items c.in-Err-Range.place planned (ap plan_states c.as_mut_slice.ensures.value ∙ sym there)
    ∙ ap (λ (p : Planned). p.name) (sym c.index.ensures) in
    let unfit =
    ap (λ (ts : List SourceType). first_misfit ts G (plan_states old.plans.items)) c.requires.turn.types
    ∙ ap (λ (ps : List Planned). first_misfit types G (plan_states ps)) (sym c.as_mut_slice.ensures.value)
    ∙ first planned
    ∙ ap (λ (name : List ℕ). Some (refusal.Range name c.in-Err-Range.step)) named in
    let same = c.abort.ensures.state ∙ ap (λ (ps : List PlanState). let s : State = record { curator = state.curator; sources = sources.committed; plans = ps } in s) there in
    let new = c.abort.new.self in
    let told = c.refused in
    Does-alike (Ok told.result) new old new (state_of new, reply.Refused why) _ same
    (ap (λ (s : State). let outcome : State × Reply = (s, reply.Refused why) in outcome) same
    ∙ sym (ap (λ (o : Option Refusal). updated_at None None o state turned c.args.count) unfit))
    (Does-told new told.result (reply.Refused why) (state_of new, reply.Refused why) c.abort.ensures.settled told.ensures.reply told.ensures.effect refl)

pub returns-in-Err-Memory-clause-does : goal.returns-in-Err-Memory-clause-does
returns-in-Err-Memory-clause-does g c =
    let old = c.args.self.now in
    let states = c.in-Err-Memory.ensures.states ∙ ap plan_states c.as_mut_slice.ensures.value in
    let there = states_are old old.sources c.prepare_all.new.plans c.requires.kept states in
    record {
      same = c.abort-in-Err-Memory.ensures.state ∙ ap (λ (ps : List PlanState). let s : State = record { curator = old.curator; sources = old.sources.committed; plans = ps } in s) there;
      done = c.abort-in-Err-Memory.ensures.settled;
    }

pub returns-in-Ok-clause-work : goal.returns-in-Ok-clause-work
returns-in-Ok-clause-work g c =
    follow_within c.args.self.now c.args.at c.args.changes.now c.as_mut_slice.result.now c.args.steps.now c.prepare_all.new.steps c.requires c.as_mut_slice.ensures.value c.prepare_all.ensures.work

pub returns-in-Err-Range-clause-work : goal.returns-in-Err-Range-clause-work
returns-in-Err-Range-clause-work g c =
    follow_within c.args.self.now c.args.at c.args.changes.now c.as_mut_slice.result.now c.args.steps.now c.prepare_all.new.steps c.requires c.as_mut_slice.ensures.value c.prepare_all.ensures.work

pub returns-in-Err-Memory-clause-work : goal.returns-in-Err-Memory-clause-work
returns-in-Err-Memory-clause-work g c =
    follow_within c.args.self.now c.args.at c.args.changes.now c.as_mut_slice.result.now c.args.steps.now c.prepare_all.new.steps c.requires c.as_mut_slice.ensures.value c.prepare_all.ensures.work
