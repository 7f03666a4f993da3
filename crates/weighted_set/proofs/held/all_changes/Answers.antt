use Rattle.std.proofs.Common.{◌++◌, ap, ap₂, subst, sym, ◌∙◌}
use Rattle.std.proofs.lemmas.List.{append-nil}
use Rattle.datasets.specs.Dataset.{empty}
use Rattle.weighted_set.specs.Changes.{IsChangeList}
use Rattle.weighted_set.specs.Held.{committed_of}
use Rattle.weighted_set.proofs.AllChanges.{IsChangeList-new_changes, new_changes}
use Rattle.weighted_set.proofs.Sets.{entries_by, entries-dataset_by}
use Rattle.weighted_set.proofs.held.all_changes.Goals as goal

pub loop-row-init : goal.loop-row-init
loop-row-init c =
    let gives = c.into_iter-row-iterator.ensures.into_iter_gives in
    let all = ap (entries_by (λ h. h.committed)) gives.0 ∙ sym (entries-dataset_by (λ h. h.committed) c.args.table.now.entries gives.5) in
    ap₂ (λ cs es. cs ++ new_changes es) c.new-changes.ensures.items all

pub returns : goal.returns
returns c =
    let made = c.loop-row.changes.items in
    let all = sym c.loop-row.invariant ∙ ap (λ es. made ++ new_changes (entries_by (λ h. h.committed) es)) c.in-None.ensures.steps.0 ∙ append-nil made in
    subst (λ cs. IsChangeList cs empty (committed_of c.args.table.now.entries)) all (IsChangeList-new_changes (committed_of c.args.table.now.entries))
