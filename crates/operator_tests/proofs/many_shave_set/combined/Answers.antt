-- The keys of a row on either side are a part of the row alone.
use Rattle.std.proofs.Common.{ap, ◌∙◌}
use Rattle.ratios.specs.Ratio.{one_ratio}
use Rattle.weighted_set.proofs.Parts.{IsListed-entries}
use Rattle.weighted_set.specs.Changes.{entries_of}
use Rattle.op_parts.specs.OneRow.{one_row}
use Rattle.operator_tests.proofs.ListedParts.{HasOnly-one_row}
use Rattle.operator_tests.proofs.many_shave_set.combined.Goals as goal

pub part_out-requires-clause-left_listed : goal.part_out-requires-clause-left_listed
part_out-requires-clause-left_listed g c =
    IsListed-entries c.as_slice.result.now (one_row c.in_ok-input.input one_ratio) (ap entries_of c.as_slice.ensures.value ∙ c.in_ok-touch.ensures.ok)

pub part_out-requires-clause-right_listed : goal.part_out-requires-clause-right_listed
part_out-requires-clause-right_listed g c =
    IsListed-entries c.as_slice-2.result.now (one_row c.in_ok-input.input one_ratio) (ap entries_of c.as_slice-2.ensures.value ∙ c.in_ok-touch-2.ensures.ok)

pub part_out-requires-clause-takes : goal.part_out-requires-clause-takes
part_out-requires-clause-takes g c = (
  HasOnly-one_row c.in_ok-input.input c.as_slice.result.now (ap entries_of c.as_slice.ensures.value ∙ c.in_ok-touch.ensures.ok),
  HasOnly-one_row c.in_ok-input.input c.as_slice-2.result.now (ap entries_of c.as_slice-2.ensures.value ∙ c.in_ok-touch-2.ensures.ok),
)
