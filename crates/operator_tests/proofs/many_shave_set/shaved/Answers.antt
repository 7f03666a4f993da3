-- The keys of a row are a part of the row alone, which has the shave's columns.
use Rattle.std.proofs.Common.{ap, sym, ◌∙◌}
use Rattle.ratios.specs.Ratio.{one_ratio}
use Rattle.weighted_set.proofs.Parts.{IsListed-entries}
use Rattle.weighted_set.specs.Changes.{entries_of}
use Rattle.op_parts.specs.OneRow.{one_row}
use Rattle.op_shave.specs.Shave.{ShaveParts}
use Rattle.operator_tests.proofs.ListedParts.{HasColumns-one_row, HasOnly-one_row, IsListed-none}
use Rattle.operator_tests.proofs.many_shave_set.shaved.Goals as goal

pub part_out-requires-clause-left_listed : goal.part_out-requires-clause-left_listed
part_out-requires-clause-left_listed g c =
    IsListed-entries c.as_slice.result.now (one_row c.in_ok-input.input one_ratio) (ap entries_of c.as_slice.ensures.value ∙ c.in_ok-touch.ensures.ok)

pub part_out-requires-clause-right_listed : goal.part_out-requires-clause-right_listed
part_out-requires-clause-right_listed g c = IsListed-none

pub part_out-requires-clause-takes : goal.part_out-requires-clause-takes
part_out-requires-clause-takes g c =
    let listed = ap entries_of c.as_slice.ensures.value ∙ c.in_ok-touch.ensures.ok in
    let cols = ap (λ (op : ShaveParts). op.cols) c.new-op.ensures ∙ c.two_ints-2.ensures in (
      HasOnly-one_row c.in_ok-input.input c.as_slice.result.now listed,
      HasColumns-one_row c.new-op.result.cols c.in_ok-input.input c.as_slice.result.now listed (c.fits.ensures.0 c.if-not-fits.false ∙ c.two_ints.ensures ∙ sym cols),
    )
