use Rattle.std.proofs.Common.{◌∷◌, length, slice_get, ap, sym, ◌∙◌, arith}
use Rattle.std.proofs.lemmas.List.{length-map}
use Rattle.weighted_set.proofs.WeightSets.{table_seen}
use Rattle.weighted_set.proofs.wset.WSet.entry.Goals as goal

pub loop-row-init : goal.loop-row-init
loop-row-init c =
    let A = c.args.self.now in
    let same = table_seen c.self.inside.table.entries c.into_iter-row-iterator.result A c.self.invariant c.self.view_is c.into_iter-row-iterator.ensures.into_iter_gives.0 in
    let rows_are = length-map A.entries (λ e. e.0) in
    let lengths = ap length same in
    record { there = ap (λ fs. slice_get fs c.args.at) same; below = omega arith }

pub returns-then-left-eq0 : goal.returns-then-left-eq0
returns-then-left-eq0 c =
    sym c.loop-row.invariant.there
    ∙ ap (λ fs. slice_get fs c.loop-row.left) c.in-Some.ensures.steps
    ∙ ap (slice_get ((c.in-Some.row.now, c.in-Some.weight.now) ∷ c.next.new.self)) c.if-left-eq0.true
