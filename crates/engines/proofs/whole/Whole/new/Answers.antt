use Rattle.std.proofs.Common.{sym, ◌∙◌}
use Rattle.engines.proofs.whole.Whole.new.Goals as goal

pub returns-clause-stands : goal.returns-clause-stands
returns-clause-stands g c = (
  record { left_is = c.new.ensures.committed; right_is = c.new-2.ensures.committed },
  λ _. record { left_same = c.new.ensures.pending ∙ sym c.new.ensures.committed; right_same = c.new-2.ensures.pending ∙ sym c.new-2.ensures.committed },
)
