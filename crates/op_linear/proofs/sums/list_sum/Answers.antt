-- The output row where the sum isn't 0, and none where it is.
use Rattle.std.proofs.Common.{◌++◌, [], ◌∷◌, ap, sym, ◌∙◌}
use Rattle.weighted_set.specs.Changes.{entries_of}
use Rattle.op_linear.proofs.RunningSums.{answered_sum}
use Rattle.op_linear.proofs.SummedOutputs.{outputs-none, outputs-some}
use Rattle.op_linear.proofs.sums.list_sum.Goals as goal

pub returns-in_ok-push_row-clause-ok : goal.returns-in_ok-push_row-clause-ok
returns-in_ok-push_row-clause-ok c =
    let left = c.args.part.now in
    let k = c.args.key.now in
    let s = c.in-Some.sum in
    c.in_ok-push_row.ensures.ok
    ∙ ap (λ xs. entries_of xs ++ (k, s) ∷ []) c.clear.ensures.items
    ∙ sym (outputs-some left c.requires k s (answered_sum left s c.in-Some.ensures).1 (sym c.is_zero.ensures.value ∙ c.if-not-is_zero.true))

pub returns-else-not-is_zero-clause-ok : goal.returns-else-not-is_zero-clause-ok
returns-else-not-is_zero-clause-ok c =
    let left = c.args.part.now in
    let k = c.args.key.now in
    let s = c.in-Some.sum in
    ap entries_of c.clear.ensures.items
    ∙ sym (outputs-none left c.requires k s (answered_sum left s c.in-Some.ensures).1 (sym c.is_zero.ensures.value ∙ c.if-not-is_zero.false))
