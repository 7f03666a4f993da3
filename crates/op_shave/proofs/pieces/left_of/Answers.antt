-- Nothing is left where the piece is at least the weight.
use Rattle.std.proofs.Common.{Some, ap, sym, ◌∙◌}
use Rattle.ratios.specs.Range.{checked}
use Rattle.ratios.specs.Ratio.{zero_ratio}
use Rattle.ratios.proofs.Range.{checked-in}
use Rattle.weighted_set.proofs.Sets.{InRange-zero}
use Rattle.op_shave.proofs.Above.{left_of-taken}
use Rattle.op_shave.proofs.pieces.left_of.Goals as goal

pub returns-else-lt : goal.returns-else-lt
returns-else-lt c =
    ap Some c.zero.ensures ∙ sym (ap checked (left_of-taken c.args.weight c.args.piece (sym c.lt.ensures ∙ c.if-lt.false)) ∙ checked-in zero_ratio InRange-zero)
