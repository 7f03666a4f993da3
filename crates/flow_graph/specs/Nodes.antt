-- What the node of a step means and holds.
use Rattle.op_groupby.specs.contracts.group.GroupOpPartOp.TheImpl as group_part_op
use Rattle.op_groupby.specs.declared.group.GroupOp.{GroupOp}
use Rattle.op_join.specs.contracts.join.JoinOpPartOp.TheImpl as join_part_op
use Rattle.op_join.specs.declared.join.JoinOp.{JoinOp}
use Rattle.op_linear.specs.contracts.filter.FilterOpPartOp.TheImpl as filter_part_op
use Rattle.op_linear.specs.contracts.many.ManyOpPartOp.TheImpl as many_part_op
use Rattle.op_linear.specs.contracts.select.SelectOpPartOp.TheImpl as select_part_op
use Rattle.op_linear.specs.declared.filter.FilterOp.{FilterOp}
use Rattle.op_linear.specs.declared.many.ManyOp.{ManyOp}
use Rattle.op_linear.specs.declared.select.SelectOp.{SelectOp}
use Rattle.op_setwise.specs.contracts.set.SetOpPartOp.TheImpl as set_part_op
use Rattle.op_setwise.specs.declared.set.SetOp.{SetOp}
use Rattle.op_shave.specs.contracts.shave.ShaveOpPartOp.TheImpl as shave_part_op
use Rattle.op_shave.specs.declared.shave.ShaveOp.{ShaveOp}
use Rattle.weighted_set.specs.Standing.{Standing}
use Rattle.engines.specs.Engines.{keyed_standing}
use Rattle.engines.specs.declared.keyed.Keyed.{Keyed}
use Rattle.flow_graph.specs.NodesBy.{node_by}
use Rattle.flow_graph.specs.declared.node.NodeOf.{NodeOf}

-- the node of a step
abbrev pub Node : Type 0
Node = NodeOf (Keyed FilterOp) (Keyed SelectOp) (Keyed ManyOp) (Keyed ShaveOp) (Keyed SetOp) (Keyed JoinOp) (Keyed GroupOp)

-- what the node of a step means and holds
abbrev pub node_standing : Node → Standing
node_standing =
    node_by (λ k. keyed_standing filter_part_op.ghosts k.op k.left k.right k.pending)
    (λ k. keyed_standing select_part_op.ghosts k.op k.left k.right k.pending)
    (λ k. keyed_standing many_part_op.ghosts k.op k.left k.right k.pending)
    (λ k. keyed_standing shave_part_op.ghosts k.op k.left k.right k.pending)
    (λ k. keyed_standing set_part_op.ghosts k.op k.left k.right k.pending)
    (λ k. keyed_standing join_part_op.ghosts k.op k.left k.right k.pending)
    (λ k. keyed_standing group_part_op.ghosts k.op k.left k.right k.pending)
