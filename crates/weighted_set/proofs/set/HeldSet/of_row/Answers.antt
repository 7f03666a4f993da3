use Rattle.std.proofs.Common.{◌++◌, [], ◌∷◌, ◌∙◌, ap, subst}
use Rattle.std.specs.Vec.{vec_capacity}
use Rattle.weighted_set.specs.Held.{PutsAt}
use Rattle.weighted_set.proofs.OneRowSets.{one_is_set, one_put_seen}
use Rattle.weighted_set.proofs.TouchedRows.{noted_gives_back}
use Rattle.weighted_set.proofs.set.HeldSet.of_row.Goals as goal

pub invariant_of-result : goal.invariant_of-result
invariant_of-result c =
    let x = c.args.row.now in
    let h = c.args.held in
    let new = c.put.new.table.entries in
    let puts = subst (λ es. PutsAt x h es new) c.new-table.ensures.empty c.in_ok-put.ensures.ok in
    let now = c.note.new.touched in
    let noted = c.in_ok-note.ensures.ok ∙ ap (λ ts. ts ++ x ∷ []) c.new-touched.ensures.items in (
      one_is_set x h new puts now.items c.row_count-len.result noted c.row_count-len.ensures.value c.numer-committed.ensures.in_range c.numer-pending.ensures.in_range,
      noted_gives_back [] now.items x (vec_capacity now) noted,
    )

pub returns : goal.returns
returns c =
    let x = c.args.row.now in
    let h = c.args.held in
    let new = c.put.new.table.entries in
    one_put_seen x h new (subst (λ es. PutsAt x h es new) c.new-table.ensures.empty c.in_ok-put.ensures.ok)
