use Rattle.std.proofs.Common.{◌<◌, ◌≤◌, ◌∙◌, ap, arith, length, sym}
use Rattle.std.proofs.lemmas.Option.{get_or_from_slice_get}
use Rattle.weighted_set.specs.Held.{HeldDatasets}
use Rattle.session_data.proofs.HeldLemmas.{SettledBefore-all, SettledBefore-more}
use Rattle.session_data.proofs.sources.commit_sets.Goals as goal

pub loop-at-preserved : goal.loop-at-preserved
loop-at-preserved c =
    let before = c.loop-at.invariant in
    let lt : c.loop-at.at < length c.loop-at.sets = omega (arith, c.loop-at-test.true, c.len-at-end.ensures, before.within) in
    SettledBefore-more (λ (set : HeldDatasets). set.pending) c.args.sets.now c.loop-at.sets c.loop-at.at c.commit.new.self lt before
    (c.commit.ensures.pending ∙ ap (λ (set : HeldDatasets). set.pending) (sym (get_or_from_slice_get c.loop-at.sets c.loop-at.at c.at_mut.result.now c.commit.new.self c.at_mut.ensures.value)))
    (c.commit.ensures.committed ∙ sym c.commit.ensures.pending)

pub returns-clause-committed : goal.returns-clause-committed
returns-clause-committed c =
    let before = c.loop-at.invariant in
    let end : length c.loop-at.sets ≤ c.loop-at.at = omega (arith, c.loop-at-test.false, c.len-at-end.ensures, before.within) in
    SettledBefore-all (λ (set : HeldDatasets). set.pending) c.args.sets.now c.loop-at.sets c.loop-at.at end before ∙ before.kept
