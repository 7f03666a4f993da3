use Rattle.std.proofs.Common.{length, ap, sym, subst, arith}
use Rattle.datasets.specs.Dataset.{rows}
use Rattle.datasets.specs.Entries.{row_count}
use Rattle.datasets.proofs.Counts.{length-set_at}
use Rattle.weighted_set.specs.Held.{SettlesAt, committed_of}
use Rattle.weighted_set.proofs.Tables.{committed_of-settles, length-dataset_by}
use Rattle.weighted_set.proofs.held.settle_row.Goals as goal

pub overflow_add-result : goal.overflow_add-result
overflow_add-result c = let few = length-dataset_by (λ h. h.committed) c.args.table.now.entries in omega arith

pub overflow_sub-result : goal.overflow_sub-result
overflow_sub-result c =
    let A = committed_of c.args.table.now.entries in
    let x = c.args.row.now in
    let step = length-set_at x c.weight_by.result A in
    let before = ap row_count c.settle-held.ensures.committed in
    omega (arith, c.row_count.ensures.value, c.row_count-2.ensures.value)

pub returns-clause-counted : goal.returns-clause-counted
returns-clause-counted c =
    let A = committed_of c.args.table.now.entries in
    let x = c.args.row.now in
    let w = c.weight_by.result in
    let step = length-set_at x w A in
    let before = ap row_count c.settle-held.ensures.committed in
    let settles = subst (λ v. SettlesAt x v c.args.table.now.entries c.settle-held.new.table.entries) (sym c.weight_by.ensures) c.settle-held.ensures.settled in
    let after = ap (λ B. length (rows B)) (committed_of-settles x w c.args.table.now.entries c.settle-held.new.table.entries settles) in
    omega (arith, c.row_count.ensures.value, c.row_count-2.ensures.value)

pub returns-clause-settled : goal.returns-clause-settled
returns-clause-settled c =
    subst (λ w. SettlesAt c.args.row.now w c.args.table.now.entries c.settle-held.new.table.entries) c.settle-held.ensures.viewed c.settle-held.ensures.settled
