use Rattle.std.proofs.Common.{◌+◌, ◌++◌, length, ap, ap₂, sym, ◌∙◌}
use Rattle.weighted_set.specs.Changes.{entries_of}
use Rattle.weighted_set.specs.Held.{viewed_weight}
use Rattle.weighted_set.proofs.Sets.{entries_by, entries-dataset_by}
use Rattle.weighted_set.proofs.held.read_rows.Goals as goal

pub loop-row-init : goal.loop-row-init
loop-row-init g c =
    let f = viewed_weight c.args.view in
    let gives = c.into_iter-row-iterator.ensures.into_iter_gives in
    let all = ap (entries_by f) gives.0 ∙ sym (entries-dataset_by f c.args.table.now.entries gives.5) in
    record {
      so_far = ap₂ (λ ws es. entries_of ws ++ es) c.requires all;
      ticks = ap (λ es. c.args.steps.now + length es) all;
    }
