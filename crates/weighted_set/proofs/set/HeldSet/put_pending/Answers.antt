use Rattle.std.proofs.Common.{ap, sym, ◌∙◌, subst, refl, Some}
use Rattle.std.specs.Vec.{vec_capacity}
use Rattle.datasets.specs.Dataset.{at, set_at}
use Rattle.weighted_set.specs.declared.held.Held.{Held}
use Rattle.weighted_set.specs.Held.{IsSet, committed_of}
use Rattle.weighted_set.proofs.Tables.{dataset_by-finds}
use Rattle.weighted_set.proofs.Sets.{committed_stays, noted_is_set, put_is_set}
use Rattle.weighted_set.proofs.TouchedRows.{noted_gives_back}
use Rattle.weighted_set.proofs.set.HeldSet.put_pending.Goals as goal

pub invariant_of-self-in_err-put_pending : goal.invariant_of-self-in_err-put_pending
invariant_of-self-in_err-put_pending c =
    let old = c.self.inside in
    let x = c.args.row.now in
    let now = c.note.new.touched in
    let noted = c.in_ok-note.ensures.ok in
    let set = noted_is_set old.table.entries old.table.entries old.touched.items x old.len c.self.invariant.0 in (
      subst (λ es. IsSet es now.items old.len) (sym c.in_err-put_pending.ensures.err) (subst (λ ts. IsSet old.table.entries ts old.len) (sym noted) set),
      noted_gives_back old.touched.items now.items x (vec_capacity now) noted,
    )

pub returns-clause-committed : goal.returns-clause-committed
returns-clause-committed c =
    let es = c.self.inside.table.entries in
    let x = c.args.row.now in
    let h : Held = record { committed = at (committed_of es) x; pending = c.args.weight } in
    committed_stays es c.put_pending.new.table.entries x h c.in_ok-put_pending.ensures.ok refl ∙ ap (λ v. v.committed) c.self.view_is

pub returns-clause-ok : goal.returns-clause-ok
returns-clause-ok c =
    let es = c.self.inside.table.entries in
    let x = c.args.row.now in
    let h : Held = record { committed = at (committed_of es) x; pending = c.args.weight } in
    dataset_by-finds (λ h. h.pending) x (Some h) es c.put_pending.new.table.entries c.in_ok-put_pending.ensures.ok
    ∙ ap (λ v. set_at x c.args.weight v.pending) c.self.view_is

pub invariant_of-self-2 : goal.invariant_of-self-2
invariant_of-self-2 c =
    let old = c.self.inside in
    let es = old.table.entries in
    let x = c.args.row.now in
    let h : Held = record { committed = at (committed_of es) x; pending = c.args.weight } in
    let now = c.note.new.touched in
    let noted = c.in_ok-note.ensures.ok in
    let put = put_is_set es c.put_pending.new.table.entries old.touched.items x old.len h c.self.invariant.0 c.in_ok-put_pending.ensures.ok refl c.numer-numerator.ensures.in_range in
    (subst (λ ts. IsSet c.put_pending.new.table.entries ts old.len) (sym noted) put, noted_gives_back old.touched.items now.items x (vec_capacity now) noted)
