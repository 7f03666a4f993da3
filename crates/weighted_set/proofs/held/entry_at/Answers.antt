use Rattle.std.proofs.Common.{◌∷◌, length, slice_get, ap, sym, ◌∙◌, arith}
use Rattle.std.proofs.lemmas.List.{length-map}
use Rattle.weighted_set.specs.Held.{committed_of}
use Rattle.weighted_set.proofs.Sets.{entries_by, entries-dataset_by, entries_by-takes}
use Rattle.weighted_set.proofs.held.entry_at.Goals as goal

pub loop-row-init : goal.loop-row-init
loop-row-init c =
    let gives = c.into_iter-row-iterator.ensures.into_iter_gives in
    let es = c.args.table.now.entries in
    let rows_are = length-map (committed_of es).entries (λ e. e.0) in
    let same = ap length (entries-dataset_by (λ h. h.committed) es gives.5) in
    let iterated = ap (λ fs. length (entries_by (λ h. h.committed) fs)) gives.0 in
    record { there = ap (λ fs. slice_get (entries_by (λ h. h.committed) fs) c.args.place) gives.0; below = omega arith }

pub returns-then-left-eq0 : goal.returns-then-left-eq0
returns-then-left-eq0 c =
    let es = c.args.table.now.entries in
    let rest = entries_by (λ h. h.committed) c.next.new.self in
    let left = c.loop-row.left in
    ap (λ fs. slice_get fs c.args.place) (entries-dataset_by (λ h. h.committed) es c.into_iter-row-iterator.ensures.into_iter_gives.5)
    ∙ sym c.loop-row.invariant.there
    ∙ ap (λ fs. slice_get (entries_by (λ h. h.committed) fs) left) c.in-Some.ensures.steps
    ∙ ap (λ fs. slice_get fs left) (entries_by-takes (λ h. h.committed) c.in-Some.row.now c.in-Some.held.now c.next.new.self (sym c.if-not-is_zero.ensures))
    ∙ ap (slice_get ((c.in-Some.row.now, c.in-Some.held.now.committed) ∷ rest)) c.if-left-eq0.true
