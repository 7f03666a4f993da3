-- No rows are a list of rows.
use Rattle.operator_tests.proofs.ListedParts.{IsListed-none}
use Rattle.operator_tests.proofs.many_shave_set.gathered.Goals as goal

pub part_out-requires-clause-right_listed : goal.part_out-requires-clause-right_listed
part_out-requires-clause-right_listed g c = IsListed-none
