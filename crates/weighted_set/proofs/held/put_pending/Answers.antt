use Rattle.std.proofs.Common.{ap, sym, subst, ◌∙◌, refl, Some}
use Rattle.std.specs.Prelude.{IsSome}
use Rattle.std.specs.Option.{option_copied_mut}
use Rattle.ratios.specs.Ratio.{Ratio}
use Rattle.weighted_set.specs.declared.held.Held.{Held}
use Rattle.weighted_set.specs.Held.{PutsAt}
use Rattle.weighted_set.specs.Tables.{FindsAt}
use Rattle.weighted_set.proofs.Tables.{at-dataset_by, weight_found}
use Rattle.weighted_set.proofs.held.put_pending.Goals as goal

-- a row that is kept with weight w in place of its pending one
abbrev pub pending_with : Ratio → Ratio → Held
pending_with w committed = record { committed = committed; pending = w }

pub returns-in-Some-clause-ok : goal.returns-in-Some-clause-ok
returns-in-Some-clause-ok c =
    let x = c.args.row.now in
    let old = c.args.table.now.entries in
    let there = c.in-Some.ensures.value in
    let held = c.in-Some.there.now in
    let committed = ap (weight_found (λ h. h.committed)) there ∙ sym (at-dataset_by (λ h. h.committed) old x) in
    let h = pending_with c.args.weight held.committed in
    let updates = (c.get_mut.follows.holds h).3 (subst IsSome there refl) in
    subst (λ v. PutsAt x (pending_with c.args.weight v) old (c.get_mut.follows.lender h).entries) committed updates.0

pub returns-clause-ok : goal.returns-clause-ok
returns-clause-ok c =
    let x = c.args.row.now in
    let old = c.args.table.now.entries in
    let new = c.insert.new.self.entries in
    let unchanged = c.get_mut.follows.lender-at-none.entries in
    let absent = ap option_copied_mut (sym c.in_default.is) ∙ c.get_mut.ensures.value in
    let committed = c.zero.ensures ∙ ap (weight_found (λ h. h.committed)) absent ∙ sym (at-dataset_by (λ h. h.committed) old x) in
    let copied = subst (λ y. FindsAt y (Some (pending_with c.args.weight c.zero.result)) unchanged new) c.in_ok-copy.ensures c.in_ok-insert.ensures.updates.0 in
    let put = subst (λ m. FindsAt x (Some (pending_with c.args.weight c.zero.result)) m.entries new) c.get_mut.follows.holds-at-none copied in
    subst (λ v. PutsAt x (pending_with c.args.weight v) old new) committed put
