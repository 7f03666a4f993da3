use Rattle.std.proofs.Common.{ap, sym, ◌∙◌}
use Rattle.weighted_set.proofs.Tables.{at-dataset_by, weight_found}
use Rattle.weighted_set.proofs.held.held_at.Goals as goal

pub returns-in-Some-clause-committed : goal.returns-in-Some-clause-committed
returns-in-Some-clause-committed c = ap (weight_found (λ h. h.committed)) c.in-Some.ensures.value ∙ sym (at-dataset_by (λ h. h.committed) c.args.table.now.entries c.args.row.now)

pub returns-in-Some-clause-pending : goal.returns-in-Some-clause-pending
returns-in-Some-clause-pending c = ap (weight_found (λ h. h.pending)) c.in-Some.ensures.value ∙ sym (at-dataset_by (λ h. h.pending) c.args.table.now.entries c.args.row.now)

pub returns-in-None-clause-committed : goal.returns-in-None-clause-committed
returns-in-None-clause-committed c =
    c.no_weights.ensures.committed ∙ ap (weight_found (λ h. h.committed)) c.in-None.ensures.value ∙ sym (at-dataset_by (λ h. h.committed) c.args.table.now.entries c.args.row.now)

pub returns-in-None-clause-pending : goal.returns-in-None-clause-pending
returns-in-None-clause-pending c =
    c.no_weights.ensures.pending ∙ ap (weight_found (λ h. h.pending)) c.in-None.ensures.value ∙ sym (at-dataset_by (λ h. h.pending) c.args.table.now.entries c.args.row.now)
