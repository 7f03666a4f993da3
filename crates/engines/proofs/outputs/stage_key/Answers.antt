use Rattle.std.specs.Prelude.{◌≡◌, ◌++◌, ◌∷◌, [], false, true}
use Rattle.std.proofs.Common.{subst, sym, true≢false, ◌∙◌}
use Rattle.std.proofs.lemmas.Result.{err_from_is_err_and}
use Rattle.datasets.specs.Dataset.{Dataset}
use Rattle.datasets.specs.Entries.{Row}
use Rattle.engines.specs.Staging.{AreOutputChanges, outputs_by}
use Rattle.weighted_set.specs.Changes.{entries_of}
use Rattle.weighted_set.specs.Merging.{changes_between}
use Rattle.weighted_set.specs.Parts.{committed_part, pending_part}
use Rattle.weighted_set.proofs.Parts.{IsListed-entries, from_listed, on_listed}
use Rattle.weighted_set.proofs.WalkedChanges.{changes_between_lead}
use Rattle.engines.proofs.Pending.{entries_of_slice}
use Rattle.engines.proofs.Staged.{staged_more}
use Rattle.engines.proofs.outputs.stage_key.Goals as goal

-- ---- the parts before
pub part_out-requires-clause-left_listed : goal.part_out-requires-clause-left_listed
part_out-requires-clause-left_listed g c =
    let A = committed_part c.args.left.now c.args.key.now in
    IsListed-entries c.as_slice.result.now A (entries_of_slice c.as_slice.result.now c.read_both.new.before.items A c.as_slice.ensures.value c.in_ok-read_both.ensures.before)

pub part_out-requires-clause-right_listed : goal.part_out-requires-clause-right_listed
part_out-requires-clause-right_listed g c =
    let B = committed_part c.args.right.now c.args.key.now in
    IsListed-entries c.as_slice-2.result.now B (entries_of_slice c.as_slice-2.result.now c.read_both-2.new.before.items B c.as_slice-2.ensures.value c.in_ok-read_both-2.ensures.before)

pub part_out-requires-clause-takes : goal.part_out-requires-clause-takes
part_out-requires-clause-takes g c =
    let A = committed_part c.args.left.now c.args.key.now in
    let B = committed_part c.args.right.now c.args.key.now in
    on_listed (g.O.PartOp.TakesPart c.args.op.now c.args.key.now) c.as_slice.result.now c.as_slice-2.result.now A B
    (entries_of_slice c.as_slice.result.now c.read_both.new.before.items A c.as_slice.ensures.value c.in_ok-read_both.ensures.before)
    (entries_of_slice c.as_slice-2.result.now c.read_both-2.new.before.items B c.as_slice-2.ensures.value c.in_ok-read_both-2.ensures.before) c.requires.before

-- no part before is out of range
pub returns-in_err-part_out-clause-range : goal.returns-in_err-part_out-clause-range
returns-in_err-part_out-clause-range g c =
    let o = g.O.PartOp in
    let k = c.args.key.now in
    let A = committed_part c.args.left.now k in
    let B = committed_part c.args.right.now k in
    let p = err_from_is_err_and c.from_residual-in_err-part_out.result c.from_residual-in_err-part_out.ensures.1 in
    rw (p.1, p.2) (λ e fits.
    absurd (true≢false (sym fits ∙ from_listed (λ A B. o.part_fits c.args.op.now k A B ≡ false) c.as_slice.result.now c.as_slice-2.result.now A B
    (entries_of_slice c.as_slice.result.now c.read_both.new.before.items A c.as_slice.ensures.value c.in_ok-read_both.ensures.before)
    (entries_of_slice c.as_slice-2.result.now c.read_both-2.new.before.items B c.as_slice-2.ensures.value c.in_ok-read_both-2.ensures.before)
    (c.in_err-part_out.ensures.range e))))

-- ---- the parts after
pub part_out-requires-2-clause-left_listed : goal.part_out-requires-2-clause-left_listed
part_out-requires-2-clause-left_listed g c =
    let A = pending_part c.args.left.now c.args.key.now in
    IsListed-entries c.as_slice-3.result.now A (entries_of_slice c.as_slice-3.result.now c.read_both.new.after.items A c.as_slice-3.ensures.value c.in_ok-read_both.ensures.after)

pub part_out-requires-2-clause-right_listed : goal.part_out-requires-2-clause-right_listed
part_out-requires-2-clause-right_listed g c =
    let B = pending_part c.args.right.now c.args.key.now in
    IsListed-entries c.as_slice-4.result.now B (entries_of_slice c.as_slice-4.result.now c.read_both-2.new.after.items B c.as_slice-4.ensures.value c.in_ok-read_both-2.ensures.after)

pub part_out-requires-2-clause-takes : goal.part_out-requires-2-clause-takes
part_out-requires-2-clause-takes g c =
    let A = pending_part c.args.left.now c.args.key.now in
    let B = pending_part c.args.right.now c.args.key.now in
    on_listed (g.O.PartOp.TakesPart c.args.op.now c.args.key.now) c.as_slice-3.result.now c.as_slice-4.result.now A B
    (entries_of_slice c.as_slice-3.result.now c.read_both.new.after.items A c.as_slice-3.ensures.value c.in_ok-read_both.ensures.after)
    (entries_of_slice c.as_slice-4.result.now c.read_both-2.new.after.items B c.as_slice-4.ensures.value c.in_ok-read_both-2.ensures.after) c.requires.after

pub returns-in_err-part_out-2-clause-range : goal.returns-in_err-part_out-2-clause-range
returns-in_err-part_out-2-clause-range g c =
    let o = g.O.PartOp in
    let k = c.args.key.now in
    let A = pending_part c.args.left.now k in
    let B = pending_part c.args.right.now k in
    let p = err_from_is_err_and c.from_residual-in_err-part_out-2.result c.from_residual-in_err-part_out-2.ensures.1 in
    rw (p.1, p.2) (λ e fits.
    from_listed (λ A B. o.part_fits c.args.op.now k A B ≡ false) c.as_slice-3.result.now c.as_slice-4.result.now A B
    (entries_of_slice c.as_slice-3.result.now c.read_both.new.after.items A c.as_slice-3.ensures.value c.in_ok-read_both.ensures.after)
    (entries_of_slice c.as_slice-4.result.now c.read_both-2.new.after.items B c.as_slice-4.ensures.value c.in_ok-read_both-2.ensures.after)
    (c.in_err-part_out-2.ensures.range e))

pub returns-clause-fits : goal.returns-clause-fits
returns-clause-fits g c =
    let o = g.O.PartOp in
    let k = c.args.key.now in
    let A = pending_part c.args.left.now k in
    let B = pending_part c.args.right.now k in
    from_listed (λ A B. o.part_fits c.args.op.now k A B ≡ true) c.as_slice-3.result.now c.as_slice-4.result.now A B
    (entries_of_slice c.as_slice-3.result.now c.read_both.new.after.items A c.as_slice-3.ensures.value c.in_ok-read_both.ensures.after)
    (entries_of_slice c.as_slice-4.result.now c.read_both-2.new.after.items B c.as_slice-4.ensures.value c.in_ok-read_both-2.ensures.after)
    c.in_ok-part_out-2.ensures.fits

-- ---- the changes
pub returns-clause-staged : goal.returns-clause-staged
returns-clause-staged g c =
    let op = c.args.op.now in
    let k = c.args.key.now in
    let left = c.args.left.now in
    let right = c.args.right.now in
    let o = g.O.PartOp in
    let before : Row → Dataset = outputs_by (o.outputs op) (committed_part left) (committed_part right) in
    let after : Row → Dataset = outputs_by (o.outputs op) (pending_part left) (pending_part right) in
    let out_before =
    from_listed (λ A B. entries_of c.part_out.new.into.items ≡ (o.outputs op k A B).entries) c.as_slice.result.now c.as_slice-2.result.now (committed_part left k) (committed_part right k)
    (entries_of_slice c.as_slice.result.now c.read_both.new.before.items (committed_part left k) c.as_slice.ensures.value c.in_ok-read_both.ensures.before)
    (entries_of_slice c.as_slice-2.result.now c.read_both-2.new.before.items (committed_part right k) c.as_slice-2.ensures.value c.in_ok-read_both-2.ensures.before)
    c.in_ok-part_out.ensures.ok in
    let out_after =
    from_listed (λ A B. entries_of c.part_out-2.new.into.items ≡ (o.outputs op k A B).entries) c.as_slice-3.result.now c.as_slice-4.result.now (pending_part left k) (pending_part right k)
    (entries_of_slice c.as_slice-3.result.now c.read_both.new.after.items (pending_part left k) c.as_slice-3.ensures.value c.in_ok-read_both.ensures.after)
    (entries_of_slice c.as_slice-4.result.now c.read_both-2.new.after.items (pending_part right k) c.as_slice-4.ensures.value c.in_ok-read_both-2.ensures.after)
    c.in_ok-part_out-2.ensures.ok in
    λ done staged.
    subst (λ cs. AreOutputChanges (o.owner op) before after (done ++ k ∷ []) cs)
    (sym (c.in_ok-push_changes.ensures (before k) (after k)
    (entries_of_slice c.as_slice-5.result.now c.part_out.new.into.items (before k) c.as_slice-5.ensures.value out_before)
    (entries_of_slice c.as_slice-6.result.now c.part_out-2.new.into.items (after k) c.as_slice-6.ensures.value out_after)))
    (staged_more (o.owner op) before after k
    (λ z. g.met.O.PartOp.outputs_are_owned op k (committed_part left k) (committed_part right k) z c.requires.before)
    (λ z. g.met.O.PartOp.outputs_are_owned op k (pending_part left k) (pending_part right k) z c.requires.after)
    c.args.changes.now.items (changes_between (before k) (after k)) (changes_between_lead (before k) (after k)) done staged)
