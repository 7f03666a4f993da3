use Rattle.std.proofs.Common.{sym, ◌∙◌}
use Rattle.weighted_set.specs.declared.part_op.Side.TheVariants.{Left, Right}
use Rattle.weighted_set.proofs.Parts.{part_of-empty}
use Rattle.engines.proofs.keyed.Keyed.new.Goals as goal

pub returns-clause-stands : goal.returns-clause-stands
returns-clause-stands g c = (
  record {
    of_left = λ k. c.new.ensures.committed k ∙ sym (part_of-empty (g.O.PartOp.keys c.args.op Left) k);
    of_right = λ k. c.new-2.ensures.committed k ∙ sym (part_of-empty (g.O.PartOp.keys c.args.op Right) k);
  },
  λ _. record { left_same = λ k. c.new.ensures.pending k ∙ sym (c.new.ensures.committed k); right_same = λ k. c.new-2.ensures.pending k ∙ sym (c.new-2.ensures.committed k) },
)
