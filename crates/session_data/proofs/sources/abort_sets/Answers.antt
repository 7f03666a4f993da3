use Rattle.std.proofs.Common.{◌<◌, ◌≤◌, ◌∙◌, ap, arith, length, sym}
use Rattle.std.proofs.lemmas.Option.{get_or_from_slice_get}
use Rattle.weighted_set.specs.Held.{HeldDatasets}
use Rattle.session_data.proofs.HeldLemmas.{SettledBefore-all, SettledBefore-more}
use Rattle.session_data.proofs.sources.abort_sets.Goals as goal

pub loop-at-preserved : goal.loop-at-preserved
loop-at-preserved c =
    let before = c.loop-at.invariant in
    let lt : c.loop-at.at < length c.loop-at.sets = omega (arith, c.loop-at-test.true, c.len-at-end.ensures, before.within) in
    SettledBefore-more (λ (set : HeldDatasets). set.committed) c.args.sets.now c.loop-at.sets c.loop-at.at c.abort.new.self lt before
    (c.abort.ensures.committed ∙ ap (λ (set : HeldDatasets). set.committed) (sym (get_or_from_slice_get c.loop-at.sets c.loop-at.at c.at_mut.result.now c.abort.new.self c.at_mut.ensures.value)))
    (c.abort.ensures.committed ∙ sym c.abort.ensures.pending)

pub returns-clause-pending : goal.returns-clause-pending
returns-clause-pending c =
    let before = c.loop-at.invariant in
    let end : length c.loop-at.sets ≤ c.loop-at.at = omega (arith, c.loop-at-test.false, c.len-at-end.ensures, before.within) in
    sym (SettledBefore-all (λ (set : HeldDatasets). set.committed) c.args.sets.now c.loop-at.sets c.loop-at.at end before) ∙ before.kept
