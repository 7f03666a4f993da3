-- The key of a row on the left, and those of a row on the right.
use Rattle.std.proofs.Common.{◌++◌, [], ◌∷◌, ap, sym, ◌∙◌}
use Rattle.plan_model.specs.Evaluation.{row_of}
use Rattle.weighted_set.specs.Changes.{entries_of}
use Rattle.ratios.specs.Ratio.{one_ratio}
use Rattle.op_groupby.specs.Group.{GroupParts, group_keys}
use Rattle.op_parts.proofs.OneRows.{entries-empty, entries-one_key}
use Rattle.op_groupby.proofs.group.GroupOpPartOp.touch.Goals as goal

pub returns-in_ok-push_made-in-Left-clause-ok : goal.returns-in_ok-push_made-in-Left-clause-ok
returns-in_ok-push_made-in-Left-clause-ok c =
    let op = c.args.self.now in
    let x = c.args.row.now in
    c.in_ok-push_made-in-Left.ensures.ok
    ∙ ap (λ xs. entries_of xs ++ (c.in_ok-key-in-Left.key, c.one.result) ∷ []) c.clear.ensures.items
    ∙ ap (λ w. (c.in_ok-key-in-Left.key, w) ∷ []) c.one.ensures
    ∙ sym (ap (λ side. (group_keys op side x).entries) c.in-Left.is ∙ entries-one_key (row_of op.key x) ∙ sym (ap (λ k. (k, one_ratio) ∷ []) (c.in_ok-key-in-Left.ensures ∙ ap (λ (op : GroupParts). row_of op.key x) c.self.view_is)))

pub returns-in-Right-clause-ok : goal.returns-in-Right-clause-ok
returns-in-Right-clause-ok c =
    ap entries_of c.clear.ensures.items ∙ sym (ap (λ side. (group_keys c.args.self.now side c.args.row.now).entries) c.in-Right.is ∙ entries-empty)
