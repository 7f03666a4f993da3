use Rattle.dataflow.proofs.NodesWired.{WiresStand-committed, WiresStand-idle}
use Rattle.dataflow.proofs.wired.commit_wired.Goals as goal

pub returns-clause-committed : goal.returns-clause-committed
returns-clause-committed g c wires F p =
    WiresStand-committed g.N.Operator.standing c.args.nodes.now c.commit_all.new.nodes c.commit_all.ensures.same wires F c.args.out.now c.commit.new.self c.commit_all.ensures.committed c.commit.ensures.committed p

pub returns-clause-unchanged : goal.returns-clause-unchanged
returns-clause-unchanged g c rest wires F s =
    WiresStand-idle g.N.Operator.standing c.args.nodes.now c.commit_all.new.nodes c.commit_all.ensures.same wires F c.args.out.now c.commit.new.self c.commit_all.ensures.committed c.commit.ensures.committed rest s
