use Rattle.std.proofs.Common.{subst}
use Rattle.request_machine.specs.State.{State}
use Rattle.session_core.specs.Parts.{state_of}
use Rattle.session_core.specs.Work.{LineWorked}
use Rattle.session_core.proofs.session.Session.answer.Goals as goal

pub returns-clause-answered : goal.returns-clause-answered
returns-clause-answered g c =
    subst
    (λ (s : State). LineWorked (g.F.Shelf.files c.args.shelf.now) (g.F.Shelf.faults c.args.shelf.now) (g.F.Shelf.faults c.answer.new.shelf) (g.N.Noise.given c.args.noise.now) (g.N.Noise.given c.answer.new.noise)
    c.args.steps.now c.answer.new.steps s c.args.line.now c.answer.result c.answer.new.reply.items (state_of c.answer.new.self))
    c.self.view_is c.answer.ensures.answered
