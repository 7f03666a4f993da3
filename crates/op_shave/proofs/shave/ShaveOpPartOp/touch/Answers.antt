-- The key of a row on the left, and those of a row on the right.
use Rattle.std.proofs.Common.{◌++◌, [], ◌∷◌, ap, sym, ◌∙◌}
use Rattle.weighted_set.specs.Changes.{entries_of}
use Rattle.op_shave.specs.Shave.{shave_keys}
use Rattle.op_parts.proofs.OneRows.{entries-empty, entries-one_key}
use Rattle.op_shave.proofs.shave.ShaveOpPartOp.touch.Goals as goal

pub returns-in_ok-push_row-in-Left-clause-ok : goal.returns-in_ok-push_row-in-Left-clause-ok
returns-in_ok-push_row-in-Left-clause-ok c =
    let x = c.args.row.now in
    c.in_ok-push_row-in-Left.ensures.ok
    ∙ ap (λ xs. entries_of xs ++ (x, c.one.result) ∷ []) c.clear.ensures.items
    ∙ ap (λ w. (x, w) ∷ []) c.one.ensures
    ∙ sym (ap (λ side. (shave_keys side x).entries) c.in-Left.is ∙ entries-one_key x)

pub returns-in-Right-clause-ok : goal.returns-in-Right-clause-ok
returns-in-Right-clause-ok c =
    ap entries_of c.clear.ensures.items ∙ sym (ap (λ side. (shave_keys side c.args.row.now).entries) c.in-Right.is ∙ entries-empty)
