use Rattle.std.proofs.Common.{ap, sym, subst, ◌∙◌, refl, Some, None}
use Rattle.std.specs.Prelude.{IsSome}
use Rattle.std.specs.Option.{option_copied_mut}
use Rattle.datasets.specs.Entries.{is_zero}
use Rattle.datasets.specs.Kept.{is_zero-zero_ratio}
use Rattle.weighted_set.specs.declared.held.Held.{Held}
use Rattle.weighted_set.specs.Held.{settled_row, viewed_weight}
use Rattle.weighted_set.specs.Tables.{FindsAt}
use Rattle.weighted_set.proofs.Tables.{at-dataset_by, settled_row-other, settled_row-zero, viewed_both, weight_found}
use Rattle.weighted_set.proofs.TouchedRows.{FindsAt-again, absent-finds}
use Rattle.weighted_set.proofs.held.settle.Goals as goal

-- ---- a row that is absent
pub returns-in_default-clause-committed : goal.returns-in_default-clause-committed
returns-in_default-clause-committed c =
    let absent = ap option_copied_mut (sym c.in_default.is) ∙ c.get_mut.ensures.value in
    c.no_weights.ensures.committed ∙ ap (weight_found (λ h. h.committed)) absent ∙ sym (at-dataset_by (λ h. h.committed) c.args.table.now.entries c.args.row.now)

pub returns-in_default-clause-viewed : goal.returns-in_default-clause-viewed
returns-in_default-clause-viewed c =
    let f = viewed_weight c.args.view in
    let absent = ap option_copied_mut (sym c.in_default.is) ∙ c.get_mut.ensures.value in
    let zero = viewed_both c.args.view c.no_weights.result _ c.no_weights.ensures.committed c.no_weights.ensures.pending in
    zero ∙ ap (weight_found f) absent ∙ sym (at-dataset_by f c.args.table.now.entries c.args.row.now)

pub returns-in_default-clause-settled : goal.returns-in_default-clause-settled
returns-in_default-clause-settled c =
    let x = c.args.row.now in
    let old = c.args.table.now.entries in
    let w = viewed_weight c.args.view c.no_weights.result in
    let absent = ap option_copied_mut (sym c.in_default.is) ∙ c.get_mut.ensures.value in
    let zero = viewed_both c.args.view c.no_weights.result _ c.no_weights.ensures.committed c.no_weights.ensures.pending in
    let finds = subst (λ m. FindsAt x None old m.entries) (sym c.get_mut.follows.holds-at-none) (absent-finds x old (sym absent)) in
    subst (λ o. FindsAt x o old c.get_mut.follows.lender-at-none.entries) (sym (settled_row-zero w (ap is_zero zero ∙ is_zero-zero_ratio))) finds

-- ---- a row that ends at weight 0
pub returns-then-is_zero-clause-committed : goal.returns-then-is_zero-clause-committed
returns-then-is_zero-clause-committed c =
    ap (weight_found (λ h. h.committed)) c.in-Some.ensures.value ∙ sym (at-dataset_by (λ h. h.committed) c.args.table.now.entries c.args.row.now)

pub returns-then-is_zero-clause-viewed : goal.returns-then-is_zero-clause-viewed
returns-then-is_zero-clause-viewed c =
    let f = viewed_weight c.args.view in
    ap (weight_found f) c.in-Some.ensures.value ∙ sym (at-dataset_by f c.args.table.now.entries c.args.row.now)

pub returns-then-is_zero-clause-settled : goal.returns-then-is_zero-clause-settled
returns-then-is_zero-clause-settled c =
    let x = c.args.row.now in
    let old = c.args.table.now.entries in
    let new = c.remove.new.self.entries in
    let held = c.in-Some.there.now in
    let updates = (c.get_mut.follows.holds held).3 (subst IsSome c.in-Some.ensures.value refl) in
    let finds = FindsAt-again x (Some held) None old (c.get_mut.follows.lender held).entries new updates.0 c.remove.ensures.updates.0 in
    let zero = sym (c.if-is_zero.ensures ∙ ap is_zero c.weight_by-kept.ensures) in
    subst (λ o. FindsAt x o old new) (sym (settled_row-zero (viewed_weight c.args.view held) zero)) finds

-- ---- a row that keeps a weight
pub returns-clause-committed : goal.returns-clause-committed
returns-clause-committed c =
    ap (weight_found (λ h. h.committed)) c.in-Some.ensures.value ∙ sym (at-dataset_by (λ h. h.committed) c.args.table.now.entries c.args.row.now)

pub returns-clause-viewed : goal.returns-clause-viewed
returns-clause-viewed c =
    let f = viewed_weight c.args.view in
    ap (weight_found f) c.in-Some.ensures.value ∙ sym (at-dataset_by f c.args.table.now.entries c.args.row.now)

pub returns-clause-settled : goal.returns-clause-settled
returns-clause-settled c =
    let x = c.args.row.now in
    let old = c.args.table.now.entries in
    let w = c.weight_by-kept.result in
    let both : Held = record { committed = w; pending = w } in
    let updates = (c.get_mut.follows.holds both).3 (subst IsSome c.in-Some.ensures.value refl) in
    let new = (c.get_mut.follows.lender both).entries in
    let finds = subst (λ o. FindsAt x o old new) (sym (settled_row-other w (sym c.if-is_zero.ensures))) updates.0 in
    subst (λ v. FindsAt x (settled_row v) old new) c.weight_by-kept.ensures finds
