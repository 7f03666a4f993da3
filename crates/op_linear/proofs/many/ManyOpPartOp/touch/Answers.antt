-- A row on the right has no keys.
use Rattle.std.proofs.Common.{ap, sym, ◌∙◌}
use Rattle.weighted_set.specs.Changes.{entries_of}
use Rattle.op_parts.proofs.OneRows.{entries-empty}
use Rattle.op_linear.specs.Many.{many_keys}
use Rattle.op_linear.proofs.many.ManyOpPartOp.touch.Goals as goal

pub returns-in-Right-clause-ok : goal.returns-in-Right-clause-ok
returns-in-Right-clause-ok c =
    ap entries_of c.clear.ensures.items ∙ sym (ap (λ side. (many_keys c.args.self.now side c.args.row.now).entries) c.in-Right.is ∙ entries-empty)
