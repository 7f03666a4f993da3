use Rattle.std.proofs.Common.{◌∙◌, refl, true≢false}
use Rattle.engines.proofs.WholeInputs.{plain_first}
use Rattle.engines.proofs.whole.WholeOperator.prepare.Goals as goal

pub work_out-requires-clause-settled : goal.work_out-requires-clause-settled
work_out-requires-clause-settled g c = c.requires.inputs.1.1.1.1.stands.1 c.requires.idle

pub work_out-requires-clause-inputs : goal.work_out-requires-clause-inputs
work_out-requires-clause-inputs g c =
    let it = c.args.self.now in
    let r = c.requires.inputs in
    (r.0, (r.1.0, (r.1.1.0, (r.1.1.1.0, plain_first g.O.PartOp it.op it.left it.right it.pending r.1.1.1.1))))

pub returns-in-Ok-clause-ok : goal.returns-in-Ok-clause-ok
returns-in-Ok-clause-ok g c A B C D m =
    let it = c.args.self.now in
    let answered = c.in-Ok.ensures.ok A B C D (plain_first g.O.PartOp it.op it.left it.right it.pending m) in
    record { changes = answered.changes; fits = answered.fits; pending = (refl, answered.pending) }

pub returns-in-Err-clause-range : goal.returns-in-Err-clause-range
returns-in-Err-clause-range g c e A B C D m =
    let it = c.args.self.now in
    c.in-Err.ensures.range e A B C D (plain_first g.O.PartOp it.op it.left it.right it.pending m)

pub returns-in-Err-clause-committed : goal.returns-in-Err-clause-committed
returns-in-Err-clause-committed g c A B s =
    let unchanged = c.in-Err.ensures in
    c.abort.ensures.committed A B (record { left_is = unchanged.left_committed ∙ s.0.left_is; right_is = unchanged.right_committed ∙ s.0.right_is }, λ e. absurd (true≢false e))
