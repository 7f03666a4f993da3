use Rattle.std.proofs.Common.{ap, ◌∙◌}
use Rattle.ratios.specs.Ratio.{zero_ratio}
use Rattle.datasets.specs.Dataset.{empty, set_at}
use Rattle.datasets.specs.Kept.{is_zero-zero_ratio}
use Rattle.weighted_set.proofs.OneRow.{one_row-zero}
use Rattle.weighted_set.proofs.part.Part.of_row.Goals as goal

pub returns-clause-committed : goal.returns-clause-committed
returns-clause-committed c =
    let x = c.in_ok-row.row in
    ap (λ w. set_at x w empty) c.zero.ensures ∙ one_row-zero x zero_ratio is_zero-zero_ratio

pub returns-clause-pending : goal.returns-clause-pending
returns-clause-pending c = ap (λ x. set_at x c.args.weight empty) c.in_ok-row.ensures
