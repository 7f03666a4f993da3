-- The part is one that the group takes.
use Rattle.operator_tests.proofs.GroupedParts.{takes_listed}
use Rattle.operator_tests.proofs.ListedParts.{IsListed-none}
use Rattle.operator_tests.proofs.grouped_parts.grouped.Goals as goal

pub part_out-requires-clause-right_listed : goal.part_out-requires-clause-right_listed
part_out-requires-clause-right_listed g c = IsListed-none

pub part_out-requires-clause-takes : goal.part_out-requires-clause-takes
part_out-requires-clause-takes g c =
    takes_listed c.new-op.result c.in_ok-exprs.exprs c.args.reduce c.two_ints.result c.in_ok-key.key c.args.left.now c.new-op.ensures c.two_ints.ensures c.requires (c.in_ok-are_of_key.ensures c.if-not-branch.false)
