use Rattle.std.proofs.Common.{ap, ◌∙◌, take}
use Rattle.weighted_set.specs.Changes.{entries_of}
use Rattle.op_parts.proofs.ListedRows.{cut_back}
use Rattle.op_parts.proofs.lists.push_rows.Goals as goal

pub returns-in-Err-clause-err : goal.returns-in-Err-clause-err
returns-in-Err-clause-err c =
    let now = c.loop-entry.into.items in
    let pushed = entries_of (take c.loop-entry.entry-index c.args.list.now) in
    c.truncate.ensures.items
    ∙ ap (λ n. take n c.push_row.new.into.items) c.loop-entry.invariant.before
    ∙ ap (take _) c.in-Err.ensures.err
    ∙ cut_back c.args.into.now.items now pushed c.loop-entry.invariant.pushed
