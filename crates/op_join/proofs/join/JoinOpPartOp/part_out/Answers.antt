-- No rows where a part has none, else the pairs of the two parts.
use Rattle.std.proofs.Common.{◌++◌, ◌+◌, ◌≤◌, ap, length, List, subst, sym, ◌∙◌}
use Rattle.plan_model.specs.Sizes.{max_width}
use Rattle.weighted_set.specs.Changes.{entries_of}
use Rattle.weighted_set.specs.Parts.{listed}
use Rattle.weighted_set.specs.declared.weighted.Weighted.{Weighted}
use Rattle.op_join.specs.Join.{JoinParts}
use Rattle.op_join.specs.Pairs.{all_pairs}
use Rattle.op_join.proofs.JoinedParts.{entries-no_left, entries-no_right, entries-pairs, fits-pairs, has_no_row-listed, narrow_pairs, no_norms, norms_not_zero, wide_listed}
use Rattle.op_join.proofs.join.JoinOpPartOp.part_out.Goals as goal
use Rattle.op_join.proofs.join.JoinOpPartOp.part_out.Goals.{then-is_empty-via-then-is_empty, then-is_empty-via-else-is_empty+then-is_empty-2}

pub returns-then-is_empty-clause-ok : goal.returns-then-is_empty-clause-ok
returns-then-is_empty-clause-ok g c =
    let left = c.args.left.now in
    let right = c.args.right.now in
    ap entries_of c.clear.ensures.items
    ∙ sym (elim c.then-is_empty.branch [
      | then-is_empty-via-then-is_empty w ↦ entries-no_left (listed left) (listed right) (has_no_row-listed left c.requires.left_listed ∙ sym c.is_empty.ensures ∙ w.if-is_empty.true)
      | then-is_empty-via-else-is_empty+then-is_empty-2 w ↦ entries-no_right (listed left) (listed right) (has_no_row-listed right c.requires.right_listed ∙ sym w.is_empty-else-is_empty.ensures ∙ w.if-is_empty-2.true)
    ])

pub returns-in_default-clause-range : goal.returns-in_default-clause-range
returns-in_default-clause-range g c _ =
    no_norms c.args.self.now c.args._key.now c.args.left.now c.args.right.now c.requires.left_listed c.requires.right_listed
    (sym c.is_empty.ensures ∙ c.if-is_empty.false) (sym c.is_empty-else-is_empty.ensures ∙ c.if-is_empty-2.false) c.in_default.ensures

pub push_pairs-requires-clause-some : goal.push_pairs-requires-clause-some
push_pairs-requires-clause-some g c =
    norms_not_zero c.args.self.now c.args._key.now c.args.left.now c.args.right.now c.requires.left_listed c.requires.right_listed
    (sym c.is_empty.ensures ∙ c.if-is_empty.false) (sym c.is_empty-else-is_empty.ensures ∙ c.if-is_empty-2.false) c.in-Some.norms c.in-Some.ensures

pub push_pairs-requires-clause-narrow : goal.push_pairs-requires-clause-narrow
push_pairs-requires-clause-narrow g c =
    let op = c.args.self.now in
    let left = c.args.left.now in
    let right = c.args.right.now in
    narrow_pairs (length op.left) (length op.right) left right
    (subst (λ (op : JoinParts). length op.left + length op.right ≤ max_width) c.self.view_is c.self.invariant.2)
    (wide_listed op.left left c.requires.left_listed c.requires.takes.0)
    (wide_listed op.right right c.requires.right_listed c.requires.takes.1)

pub returns-in-Ok-clause-ok : goal.returns-in-Ok-clause-ok
returns-in-Ok-clause-ok g c =
    let left = c.args.left.now in
    let right = c.args.right.now in
    c.in-Ok.ensures.ok
    ∙ ap (λ (xs : List Weighted). entries_of xs ++ all_pairs c.in-Some.norms left right) c.clear.ensures.items
    ∙ sym (entries-pairs c.args.self.now c.args._key.now left right c.requires.left_listed c.requires.right_listed
    (sym c.is_empty.ensures ∙ c.if-is_empty.false) (sym c.is_empty-else-is_empty.ensures ∙ c.if-is_empty-2.false) c.in-Some.norms c.in-Some.ensures c.requires.takes)

pub returns-in-Ok-clause-fits : goal.returns-in-Ok-clause-fits
returns-in-Ok-clause-fits g c =
    fits-pairs c.args.self.now c.args._key.now c.args.left.now c.args.right.now c.requires.left_listed c.requires.right_listed
    (sym c.is_empty.ensures ∙ c.if-is_empty.false) (sym c.is_empty-else-is_empty.ensures ∙ c.if-is_empty-2.false) c.in-Some.norms c.in-Some.ensures c.requires.takes
    ∙ c.in-Ok.ensures.fits

pub returns-in-Err-clause-range : goal.returns-in-Err-clause-range
returns-in-Err-clause-range g c out =
    fits-pairs c.args.self.now c.args._key.now c.args.left.now c.args.right.now c.requires.left_listed c.requires.right_listed
    (sym c.is_empty.ensures ∙ c.if-is_empty.false) (sym c.is_empty-else-is_empty.ensures ∙ c.if-is_empty-2.false) c.in-Some.norms c.in-Some.ensures c.requires.takes
    ∙ c.in-Err.ensures.range out
