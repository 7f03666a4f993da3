-- Pairs with rows of one weight weigh the same.
use Rattle.std.proofs.Common.{ap, sym, ◌∙◌}
use Rattle.ratios.proofs.Order.{same_from_eq}
use Rattle.op_join.specs.Pairs.{checked_weight}
use Rattle.op_join.proofs.pairs.pair_weight.Goals as goal

pub returns-then-eq : goal.returns-then-eq
returns-then-eq c =
    let same = same_from_eq c.args.right c.args.known.0 (sym c.eq.ensures ∙ c.if-eq.true) in
    c.requires.known ∙ ap (checked_weight c.args.norms c.args.left) (sym same)
