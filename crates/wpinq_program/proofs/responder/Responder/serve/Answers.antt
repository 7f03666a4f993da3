use Rattle.std.proofs.Common.{◌≡◌, [], length, rules, refl}
use Rattle.std.proofs.lemmas.List.{nil_from_length}
use Rattle.request_machine.proofs.MachineLemmas.{Answers-stepped, Answers-gave_up}
use Rattle.request_machine.specs.Machine.{file_line, memory_line, noise_line}
use Rattle.wpinq_program.proofs.FaultLemmas.{RoseBy-one, memory_not_file, memory_not_noise}
use Rattle.wpinq_program.proofs.ServedLemmas.{Served-empty, Served-answered}
use Rattle.wpinq_program.proofs.responder.Responder.serve.Goals as goal

pub returns-then-is_empty-clause-served : goal.returns-then-is_empty-clause-served
returns-then-is_empty-clause-served g c =
    let none : length c.args.line.now ≡ 0 = search rules in
    let e : c.args.line.now ≡ [] = nil_from_length c.args.line.now none in
    rw e (Served-empty _ _)

pub returns-in-Ok-clause-served : goal.returns-in-Ok-clause-served
returns-in-Ok-clause-served g c =
    let a = c.in-Ok.ensures.answered.line_answered in
    let w = rw c.deref.ensures.value at c.write_all.ensures.written in
    let reply = c.answer.new.reply.items in
    let noise = RoseBy-one noise_line reply _ _ c.answer.ensures.later c.in-Ok.ensures.noise in
    let shelf = RoseBy-one file_line reply _ _ c.answer.ensures.shelf c.in-Ok.ensures.file in
    Served-answered _ _ _ c.args.line.now a.given reply w.0 c.write_all.result
    (search rules) (Answers-stepped _ _ _ _ a.fetched _ _ a.answer) a.drawn refl noise shelf w.1 w.2

pub returns-in-Err-clause-served : goal.returns-in-Err-clause-served
returns-in-Err-clause-served g c =
    let a = c.in-Err.ensures.answered.line_answered in
    let w = c.write_all-in-Err.ensures.written in
    let noise = RoseBy-one noise_line memory_line _ _ c.answer.ensures.later memory_not_noise in
    let shelf = RoseBy-one file_line memory_line _ _ c.answer.ensures.shelf memory_not_file in
    Served-answered _ _ _ c.args.line.now a.given memory_line w.0 c.write_all-in-Err.result
    (search rules) (Answers-gave_up _ _ _ _ _ a.answer) a.drawn refl noise shelf w.1 w.2
