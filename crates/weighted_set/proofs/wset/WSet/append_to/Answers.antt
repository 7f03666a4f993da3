-- The table's entries are those of the dataset.
use Rattle.std.proofs.Common.{◌++◌, length, ap, ◌∙◌, arith}
use Rattle.weighted_set.specs.Changes.{entries_of}
use Rattle.weighted_set.proofs.WeightSets.{table_seen}
use Rattle.weighted_set.proofs.wset.WSet.append_to.Goals as goal

pub loop-row-init : goal.loop-row-init
loop-row-init c =
    let gives = c.into_iter-row-iterator.ensures.into_iter_gives.0 in
    let count = ap length gives in
    let seen = table_seen c.self.inside.table.entries c.into_iter-row-iterator.result c.args.self c.self.invariant c.self.view_is gives in
    record {
      listed = ap (λ ws. entries_of ws ++ c.into_iter-row-iterator.result) c.in_ok-reserve.ensures.items ∙ ap (λ es. entries_of c.args.into.now.items ++ es) seen;
      room = omega (arith, c.in_ok-reserve.ensures.ok, c.len.ensures.len);
    }
