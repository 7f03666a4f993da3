use Rattle.std.proofs.Common.{ap, sym, ◌∙◌, subst}
use Rattle.ratios.specs.Range.{InRange}
use Rattle.ratios.specs.Ratio.{ratio_add}
use Rattle.ratios.proofs.Range.{checked_some, checked_none}
use Rattle.weighted_set.specs.declared.held.Held.{Held}
use Rattle.weighted_set.proofs.Running.{so_far, running_step, running_out}
use Rattle.weighted_set.proofs.adding.add_all.Goals as goal

pub returns-in_default-clause-err : goal.returns-in_default-clause-err
returns-in_default-clause-err c =
    let A = c.args.set.now.committed in
    let added = c.args.added.now in
    let e = c.index-added-at.result in
    let weights = c.weights_of-held.ensures (so_far A added c.loop-at.at) c.loop-at.invariant.step in
    let n = checked_none (ratio_add c.weights_of-held.result.pending e.weight) (sym c.in_default.ensures) in
    running_out A added c.loop-at.at c.loop-at.running.entries e c.loop-at-test.true c.index-added-at.is c.loop-at.invariant
    (λ k. n (subst (λ q. InRange (ratio_add q e.weight)) (sym weights.1) k))

pub loop-at-preserved : goal.loop-at-preserved
loop-at-preserved c =
    let A = c.args.set.now.committed in
    let added = c.args.added.now in
    let e = c.index-added-at.result in
    let weights = c.weights_of-held.ensures (so_far A added c.loop-at.at) c.loop-at.invariant.step in
    let sum = checked_some (ratio_add c.weights_of-held.result.pending e.weight) c.in-Some.sum (sym c.in-Some.ensures) in
    let h : Held = record { committed = c.weights_of-held.result.committed; pending = c.in-Some.sum } in
    running_step A added c.loop-at.at c.loop-at.running.entries e c.loop-at-test.true c.index-added-at.is c.loop-at.invariant c.put.new.table.entries h
    c.in_ok-put.ensures.ok weights.0 (sum.1 ∙ ap (λ q. ratio_add q e.weight) weights.1) (subst (λ q. InRange (ratio_add q e.weight)) weights.1 sum.0)
