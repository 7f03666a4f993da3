use Rattle.std.proofs.Common.{◌∙◌, refl, true≢false}
use Rattle.engines.proofs.Engine.{settled_first}
use Rattle.engines.proofs.keyed.KeyedOperator.prepare.Goals as goal

pub stage-requires : goal.stage-requires
stage-requires g c =
    let it = c.args.self.now in
    let r = c.requires.inputs in
    (r.0, (r.1.0, (r.1.1.0, (r.1.1.1.0, settled_first g.O.PartOp it.op it.left it.right it.pending c.requires.idle r.1.1.1.1))))

pub returns-in-Ok-clause-ok : goal.returns-in-Ok-clause-ok
returns-in-Ok-clause-ok g c A B C D m =
    let it = c.args.self.now in
    let answered = c.in-Ok.ensures.ok A B C D (settled_first g.O.PartOp it.op it.left it.right it.pending c.requires.idle m) in
    record { changes = answered.changes; fits = answered.fits; pending = (refl, answered.pending) }

pub returns-in-Err-clause-range : goal.returns-in-Err-clause-range
returns-in-Err-clause-range g c e A B C D m =
    let it = c.args.self.now in
    c.in-Err.ensures.range e A B C D (settled_first g.O.PartOp it.op it.left it.right it.pending c.requires.idle m)

pub returns-in-Err-clause-committed : goal.returns-in-Err-clause-committed
returns-in-Err-clause-committed g c A B s =
    let unchanged = c.in-Err.ensures in
    c.abort.ensures.committed A B (record { of_left = λ k. unchanged.left_committed k ∙ s.0.of_left k; of_right = λ k. unchanged.right_committed k ∙ s.0.of_right k }, λ e. absurd (true≢false e))

pub returns-in-Ok-clause-work : goal.returns-in-Ok-clause-work
returns-in-Ok-clause-work g c A B C D m =
    let it = c.args.self.now in
    c.stage.ensures.work A B C D (settled_first g.O.PartOp it.op it.left it.right it.pending c.requires.idle m)

pub returns-in-Err-clause-work : goal.returns-in-Err-clause-work
returns-in-Err-clause-work g c A B C D m =
    let it = c.args.self.now in
    c.stage.ensures.work A B C D (settled_first g.O.PartOp it.op it.left it.right it.pending c.requires.idle m)
