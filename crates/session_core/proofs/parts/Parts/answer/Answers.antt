use Rattle.std.proofs.lemmas.Result.{err_from_is_err_and}
use Rattle.session_core.proofs.AnswerLemmas.{LineWorked-closed, LineWorked-none, file_closed, noise_closed}
use Rattle.session_core.proofs.parts.Parts.answer.Goals as goal

pub close-requires-clause-ready : goal.close-requires-clause-ready
close-requires-clause-ready g c = c.in_ok-outcome.ensures.responds.holds.0.does.done.ready

pub returns-clause-answered : goal.returns-clause-answered
returns-clause-answered g c =
    let r = c.in_ok-outcome.ensures.responds in
    LineWorked-closed _ _ _ _ _ _ _ _ _ c.args.self.now c.respond.new.self c.close.new.self c.args.line.now c.in_ok-outcome.outcome r c.close.new.reply.items c.close.result
    c.close.ensures.state c.close.ensures.told c.close.ensures.same

pub returns-clause-later : goal.returns-clause-later
returns-clause-later g c = c.in_ok-outcome.ensures.responds.holds.0.later

pub returns-clause-noise : goal.returns-clause-noise
returns-clause-noise g c =
    let r = c.in_ok-outcome.ensures.responds in
    noise_closed _ _ _ _ _ _ _ _ _ c.args.self.now c.respond.new.self c.close.new.self c.args.line.now c.in_ok-outcome.outcome r c.close.new.reply.items c.close.result
    c.close.ensures.state c.close.ensures.told

pub returns-clause-file : goal.returns-clause-file
returns-clause-file g c =
    let r = c.in_ok-outcome.ensures.responds in
    file_closed _ _ _ _ _ _ _ _ _ c.args.self.now c.respond.new.self c.close.new.self c.args.line.now c.in_ok-outcome.outcome r c.close.new.reply.items c.close.result
    c.close.ensures.state c.close.ensures.told

pub returns-in_err-outcome-clause-answered : goal.returns-in_err-outcome-clause-answered
returns-in_err-outcome-clause-answered g c =
    let p = err_from_is_err_and c.from_residual.result c.from_residual.ensures.1 in
    rw (p.1, c.clear.ensures.items) (LineWorked-none _ _ _ _ _ _ _ _ _ c.args.self.now c.respond.new.self c.respond.new.self c.args.line.now _ p.0 c.in_err-outcome.ensures.responds)
