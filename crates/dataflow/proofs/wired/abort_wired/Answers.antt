use Rattle.dataflow.proofs.NodesWired.{WiresStand-kept}
use Rattle.dataflow.proofs.wired.abort_wired.Goals as goal

pub returns-clause-committed : goal.returns-clause-committed
returns-clause-committed g c wires F s =
    WiresStand-kept g.N.Operator.standing c.args.nodes.now c.abort_all.new.nodes c.abort_all.ensures.same wires F c.args.out.now c.abort.new.self c.abort_all.ensures.committed c.abort.ensures.committed s
