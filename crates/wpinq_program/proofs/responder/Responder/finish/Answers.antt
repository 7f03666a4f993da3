use Rattle.std.proofs.Common.{◌≡◌, ◌<◌, length, rules}
use Rattle.wpinq_program.proofs.ServedLemmas.{Served-no_last, Served-last}
use Rattle.wpinq_program.proofs.responder.Responder.finish.Goals as goal

pub returns-then-is_empty-clause-served : goal.returns-then-is_empty-clause-served
returns-then-is_empty-clause-served g c =
    let none : length c.args.begun.now ≡ 0 = search rules in
    λ line k. Served-no_last _ _ line c.args.begun.now k none

pub returns-clause-served : goal.returns-clause-served
returns-clause-served g c =
    let some : 0 < length c.args.begun.now = search rules in
    λ line k. Served-last _ _ _ line c.args.begun.now _ k some (rw c.line.ensures at c.serve.ensures.served)
