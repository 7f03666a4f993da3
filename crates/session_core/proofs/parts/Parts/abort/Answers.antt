use Rattle.std.proofs.Common.{List, ap, subst, sym, ◌∙◌}
use Rattle.std.specs.Prelude.{All}
use Rattle.session_data.specs.Planned.{Holds, plan_states}
use Rattle.request_machine.specs.State.{family_of, types_of}
use Rattle.session_data.specs.declared.plans.Planned.{Planned}
use Rattle.session_core.proofs.Aborted.{AreSettled-dropped}
use Rattle.session_core.proofs.parts.Parts.abort.Goals as goal

pub returns-clause-settled : goal.returns-clause-settled
returns-clause-settled c =
    let sources = c.args.self.now.sources.committed in
    AreSettled-dropped c.args.self.now c.abort.new.self c.abort_all.new.plans c.requires.kept
    (c.abort_all.ensures.states ∙ ap plan_states c.as_mut_slice.ensures.value) c.abort.ensures.committed c.abort.ensures.pending
    (c.abort_all.ensures.settled (types_of sources) (family_of sources)
    (subst (λ (plans : List Planned). All (Holds (types_of sources) (family_of sources)) plans) (sym c.as_mut_slice.ensures.value) c.requires.plans))
