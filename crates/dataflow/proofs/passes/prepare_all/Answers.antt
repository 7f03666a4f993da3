use Rattle.dataflow.proofs.Pairs.{KeepsInputs-twice}
use Rattle.dataflow.proofs.passes.prepare_all.Goals as goal

pub returns-in-Err-clause-committed : goal.returns-in-Err-clause-committed
returns-in-Err-clause-committed g c =
    let e = c.prepare_each.ensures in
    KeepsInputs-twice g.N.Operator.standing c.args.nodes.now c.prepare_each.new.nodes c.abort_all.new.nodes e.same e.committed c.abort_all.ensures.committed
