-- What the walk needs of the listed part, and that it gives the part's output.
use Rattle.std.proofs.Common.{◌++◌, ◌<◌, length, List, Bor, ap, sym, subst, ◌∙◌}
use Rattle.std.proofs.lemmas.Result.{err_from_is_err_and}
use Rattle.datasets.specs.Dataset.{Dataset}
use Rattle.plan_model.specs.Evaluation.{reduced_to}
use Rattle.plan_model.specs.Types.{HasColumns}
use Rattle.weighted_set.specs.Changes.{entries_of}
use Rattle.weighted_set.specs.Parts.{listed}
use Rattle.weighted_set.specs.declared.weighted.Weighted.{Weighted}
use Rattle.level_walks.specs.Levels.{group_part, part_in_range}
use Rattle.level_walks.specs.Walks.{IsByWeight}
use Rattle.op_groupby.specs.Group.{GroupParts, ordered}
use Rattle.op_groupby.proofs.Listed.{key_narrow, rows_read, walked_in, walked_out}
use Rattle.op_groupby.proofs.group.GroupOpPartOp.part_out.Goals as goal

pub walk-requires-clause-narrow : goal.walk-requires-clause-narrow
walk-requires-clause-narrow g c =
    let left = c.args.left.now in
    let falling = subst (λ (xs : List (Bor Weighted)). IsByWeight (entries_of left) (ordered xs)) (sym c.as_slice.ensures.value) c.in_ok-order.ensures in
    key_narrow left c.requires.left_listed c.as_slice.result.now falling c.args.self.now c.args.key.now
    (subst (λ (op : GroupParts). length op.key < 16) c.self.view_is c.self.invariant.2) c.requires.takes.1

pub walk-requires-clause-reads : goal.walk-requires-clause-reads
walk-requires-clause-reads g c =
    let left = c.args.left.now in
    let falling = subst (λ (xs : List (Bor Weighted)). IsByWeight (entries_of left) (ordered xs)) (sym c.as_slice.ensures.value) c.in_ok-order.ensures in
    rows_read left c.requires.left_listed c.as_slice.result.now falling c.self.inside.cols c.self.inside.reduce c.self.invariant.1
    (subst (λ (op : GroupParts). HasColumns op.cols (listed left)) (sym c.self.view_is) c.requires.takes.0)

pub returns-in_err-sums-clause-range : goal.returns-in_err-sums-clause-range
returns-in_err-sums-clause-range g c =
    let left = c.args.left.now in
    let falling = subst (λ (xs : List (Bor Weighted)). IsByWeight (entries_of left) (ordered xs)) (sym c.as_slice.ensures.value) c.in_ok-order.ensures in
    let p = err_from_is_err_and c.from_residual-in_err-sums.result c.from_residual-in_err-sums.ensures.1 in
    rw (p.1, p.2) (λ out.
    ap (λ (op : GroupParts). part_in_range (reduced_to op.reduce) c.args.key.now (listed left)) (sym c.self.view_is)
    ∙ walked_out left c.requires.left_listed c.as_slice.result.now falling c.self.inside.reduce c.args.key.now (c.in_err-sums.ensures.range out))

pub returns-in-Ok-clause-ok : goal.returns-in-Ok-clause-ok
returns-in-Ok-clause-ok g c =
    let left = c.args.left.now in
    let falling = subst (λ (xs : List (Bor Weighted)). IsByWeight (entries_of left) (ordered xs)) (sym c.as_slice.ensures.value) c.in_ok-order.ensures in
    let out = walked_in left c.requires.left_listed c.as_slice.result.now falling c.self.inside.reduce c.args.key.now c.in_ok-sums.sums c.in_ok-sums.ensures.ok in
    c.in-Ok.ensures.ok
    ∙ ap (λ (xs : List Weighted). entries_of xs ++ c.in_ok-sums.sums.entries) c.clear.ensures.items
    ∙ ap (λ (A : Dataset). A.entries) (out.1 ∙ ap (λ (op : GroupParts). group_part (reduced_to op.reduce) c.args.key.now (listed left)) c.self.view_is)

pub returns-in-Ok-clause-fits : goal.returns-in-Ok-clause-fits
returns-in-Ok-clause-fits g c =
    let left = c.args.left.now in
    let falling = subst (λ (xs : List (Bor Weighted)). IsByWeight (entries_of left) (ordered xs)) (sym c.as_slice.ensures.value) c.in_ok-order.ensures in
    let out = walked_in left c.requires.left_listed c.as_slice.result.now falling c.self.inside.reduce c.args.key.now c.in_ok-sums.sums c.in_ok-sums.ensures.ok in
    sym (ap (λ (op : GroupParts). part_in_range (reduced_to op.reduce) c.args.key.now (listed left)) c.self.view_is) ∙ out.0
