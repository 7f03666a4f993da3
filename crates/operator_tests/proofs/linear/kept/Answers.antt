-- The keys of a row are a part of the row alone.
use Rattle.std.proofs.Common.{ap, ◌∙◌}
use Rattle.weighted_set.specs.Changes.{entries_of}
use Rattle.weighted_set.specs.declared.part_op.Side.TheVariants.{Left}
use Rattle.op_linear.specs.Filter.{filter_keys}
use Rattle.weighted_set.proofs.Parts.{IsListed-entries}
use Rattle.operator_tests.proofs.ListedParts.{HasOnly-keys, IsListed-none}
use Rattle.operator_tests.proofs.linear.kept.Goals as goal

pub part_out-requires-clause-left_listed : goal.part_out-requires-clause-left_listed
part_out-requires-clause-left_listed g c =
    IsListed-entries c.as_slice.result.now (filter_keys c.new-op.result Left c.in_ok-input.input) (ap entries_of c.as_slice.ensures.value ∙ c.in_ok-touch.ensures.ok)

pub part_out-requires-clause-right_listed : goal.part_out-requires-clause-right_listed
part_out-requires-clause-right_listed g c = IsListed-none

pub part_out-requires-clause-takes : goal.part_out-requires-clause-takes
part_out-requires-clause-takes g c =
    HasOnly-keys c.new-op.result c.in_ok-input.input c.as_slice.result.now (ap entries_of c.as_slice.ensures.value ∙ c.in_ok-touch.ensures.ok)
