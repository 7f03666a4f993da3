use Rattle.std.proofs.Common.{inl, inr, sym}
use Rattle.datasets.specs.Dataset.{with_added}
use Rattle.weighted_set.specs.Adding.{EndsAllowed}
use Rattle.weighted_set.specs.Changes.{entries_of}
use Rattle.weighted_set.proofs.adding.changes_of_each.Goals as goal
use Rattle.weighted_set.proofs.adding.changes_of_each.Goals.{then-not-signed+in_default, else-not-signed}

pub returns-in-Some-clause-err : goal.returns-in-Some-clause-err
returns-in-Some-clause-err c =
    let B = with_added c.args.set.now.committed (entries_of c.args.added.now) in
    (c.in_ok-running.ensures.in_range, c.if-not-signed.true, sym (c.in-Some.ensures B c.in_ok-running.ensures.step))

pub returns-clause-ok : goal.returns-clause-ok
returns-clause-ok c =
    let A = c.args.set.now.committed in
    let B = with_added A (entries_of c.args.added.now) in
    let step = c.in_ok-running.ensures.step in
    let allowed : EndsAllowed A c.args.added.now c.args.signed =
    elim c.if-not-signed.branch [
      | then-not-signed+in_default w ↦ inr (sym (w.in_default.ensures B step))
      | else-not-signed w ↦ inl w.if-not-signed.false
    ] in
    record {
      in_range = c.in_ok-running.ensures.in_range;
      allowed = allowed;
      lead_there = c.in_ok-changes.ensures A B step;
    }
