use Rattle.std.proofs.Common.{List, ap, ap₂, subst, sym, ◌∙◌}
use Rattle.std.specs.Prelude.{All}
use Rattle.request_machine.specs.State.{PlanState, SourceState, State, family_of, types_of}
use Rattle.session_data.specs.Planned.{IsPrepared, plan_states}
use Rattle.session_data.specs.declared.plans.Planned.{Planned}
use Rattle.session_core.proofs.Aborted.{AreSettled-turned, states_are}
use Rattle.session_core.proofs.parts.Parts.commit.Goals as goal

pub returns-clause-settled : goal.returns-clause-settled
returns-clause-settled c =
    let old = c.args.self.now.sources in
    let states = c.commit_all.ensures.states ∙ ap plan_states c.as_mut_slice.ensures.value in
    AreSettled-turned c.args.self.now c.commit.new.self c.commit_all.new.plans c.requires.kept states
    c.commit.ensures.committed c.commit.ensures.pending c.requires.turn.types c.requires.turn.sound
    (c.commit_all.ensures.settled (types_of old.committed) (family_of old.committed) (family_of old.pending)
    (subst (λ (plans : List Planned). All (IsPrepared (types_of old.committed) (family_of old.committed) (family_of old.pending)) plans) (sym c.as_mut_slice.ensures.value) c.requires.plans))

pub returns-clause-state : goal.returns-clause-state
returns-clause-state c =
    let states = c.commit_all.ensures.states ∙ ap plan_states c.as_mut_slice.ensures.value in
    ap₂ (λ (sources : List SourceState) (ps : List PlanState). let state : State = record { curator = c.args.self.now.curator; sources = sources; plans = ps } in state) c.commit.ensures.committed
    (states_are c.args.self.now c.commit.new.self c.commit_all.new.plans c.requires.kept states)
