-- A pair whose weight is out of range is one of the row's.
use Rattle.std.proofs.Common.{◌≡◌, Some, ap, ap₂, refl, sym, ◌∙◌}
use Rattle.std.proofs.lemmas.List.{append-nil}
use Rattle.std.proofs.lemmas.Option.{slice_get-get_or}
use Rattle.ratios.specs.Ratio.{ratio_div, ratio_mul}
use Rattle.ratios.proofs.Range.{checked_none, in_range-out}
use Rattle.weighted_set.specs.Changes.{entries_of}
use Rattle.op_join.specs.Pairs.{checked_weight}
use Rattle.op_join.proofs.PairLoops.{checked_weight-none, row_out}
use Rattle.op_join.proofs.pairs.push_row_pairs.Goals as goal

pub loop-other-init : goal.loop-other-init
loop-other-init c = record {
  pushed = sym (append-nil (entries_of c.args.into.now.items));
  in_range = refl;
  known =
      ap Some c.zero-2.ensures
      ∙ checked_weight-none c.args.norms c.args.entry.now.weight
      ∙ ap (checked_weight c.args.norms c.args.entry.now.weight) (sym c.zero.ensures);
}

pub returns-in_default-clause-range : goal.returns-in_default-clause-range
returns-in_default-clause-range c _ =
    let x = c.args.entry.now in
    let ys = c.args.right.now in
    let i = c.loop-other.other-index in
    let y = c.other-item.result in
    let weight = ratio_div (ratio_mul x.weight y.weight) c.args.norms in
    row_out c.args.norms x ys i y (slice_get-get_or ys i y c.loop-other-test.true ∙ ap Some (sym c.other-item.is)) (in_range-out weight (checked_none weight (sym c.in_default.ensures)))
