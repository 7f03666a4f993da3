-- The key of a row is the row.
use Rattle.std.proofs.Common.{◌++◌, [], ◌∷◌, ap, sym, ◌∙◌}
use Rattle.weighted_set.specs.Changes.{entries_of}
use Rattle.op_parts.proofs.OneRows.{entries-one_key}
use Rattle.op_setwise.proofs.set.SetOpPartOp.touch.Goals as goal

pub returns-clause-ok : goal.returns-clause-ok
returns-clause-ok c =
    let x = c.args.row.now in
    c.in_ok-push_row.ensures.ok
    ∙ ap (λ xs. entries_of xs ++ (x, c.one.result) ∷ []) c.clear.ensures.items
    ∙ ap (λ w. (x, w) ∷ []) c.one.ensures
    ∙ sym (entries-one_key x)
