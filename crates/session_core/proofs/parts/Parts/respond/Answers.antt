use Rattle.std.proofs.Common.{ap, arith, subst, sym, Result}
use Rattle.messages.specs.declared.refusal.Refusal.{Refusal}
use Rattle.messages.specs.declared.reply.Reply.TheVariants as reply
use Rattle.messages.specs.declared.request.Request.{Request}
use Rattle.request_text.specs.Requests.{request_on}
use Rattle.request_machine.specs.Machine.{answered}
use Rattle.session_core.specs.Draws.{Responds}
use Rattle.session_core.specs.Fetching.{FetchesAnd}
use Rattle.session_core.specs.Parts.{state_of}
use Rattle.session_core.specs.Work.{TakesWithin, line_work}
use Rattle.session_core.proofs.AnswerLemmas.{Responds-answer, TakesWithin-none}
use Rattle.session_core.proofs.Fetched.{FetchesAnd-any}
use Rattle.session_core.proofs.Measuring.{Responds-none}
use Rattle.session_core.proofs.parts.Parts.respond.Goals as goal

pub returns-in-Ok-clause-responds : goal.returns-in-Ok-clause-responds
returns-in-Ok-clause-responds g c =
    let old = c.args.self.now in
    subst
    (λ (asked : Result Request Refusal). FetchesAnd (g.F.Shelf.files c.args.shelf.now) (g.F.Shelf.faults c.args.shelf.now) (g.F.Shelf.faults c.perform.new.shelf) asked
    (λ fetched. Responds (g.N.Noise.given c.args.noise.now) (g.N.Noise.given c.perform.new.noise) (g.N.Noise.faults c.args.noise.now) (g.N.Noise.faults c.perform.new.noise)
    c.perform.result old c.perform.new.self (answered (state_of old) asked fetched)
    × TakesWithin (line_work (state_of old) asked fetched) c.args.steps.now c.perform.new.steps))
    (sym c.in-Ok.ensures.value) c.perform.ensures.responds

pub returns-in-Err-Refused-clause-responds : goal.returns-in-Err-Refused-clause-responds
returns-in-Err-Refused-clause-responds g c =
    let state = state_of c.args.self.now in
    let read = rw c.in-Err-Refused.field-0-is at c.in-Err-Refused.ensures.value in
    FetchesAnd-any _ _ _ _ _ (omega arith) (λ fetched. (
      Responds-answer _ _ c.args.self.now c.refused.result (reply.Refused c.in-Err-Refused.why) (answered state (request_on c.args.line.now) fetched) c.requires
          c.refused.ensures.reply c.refused.ensures.effect (ap (λ (r : Result Request Refusal). answered state r fetched) read),
      TakesWithin-none (line_work state (request_on c.args.line.now) fetched) c.args.steps.now,
    ))

pub returns-in-Err-Memory-clause-responds : goal.returns-in-Err-Memory-clause-responds
returns-in-Err-Memory-clause-responds g c =
    FetchesAnd-any _ _ _ _ _ (omega arith) (λ fetched.
    (Responds-none _ _ _ c.args.self.now _ c.requires, TakesWithin-none (line_work (state_of c.args.self.now) (request_on c.args.line.now) fetched) c.args.steps.now))
