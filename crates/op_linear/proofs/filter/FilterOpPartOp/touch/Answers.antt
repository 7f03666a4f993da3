-- The keys of a row that is kept, of one that is left out, and of a row on the right.
use Rattle.std.proofs.Common.{◌++◌, [], ◌∷◌, ap, sym, ◌∙◌}
use Rattle.weighted_set.specs.Changes.{entries_of}
use Rattle.plan_model.specs.Evaluation.{passes}
use Rattle.op_linear.specs.Filter.{FilterParts, filter_keys}
use Rattle.op_parts.proofs.OneRows.{entries-empty}
use Rattle.op_linear.proofs.ListedKeys.{keys-kept, keys-left_out}
use Rattle.op_linear.proofs.filter.FilterOpPartOp.touch.Goals as goal

pub returns-in_ok-push_row-in-Left-clause-ok : goal.returns-in_ok-push_row-in-Left-clause-ok
returns-in_ok-push_row-in-Left-clause-ok c =
    let op = c.args.self.now in
    let x = c.args.row.now in
    c.in_ok-push_row-in-Left.ensures.ok
    ∙ ap (λ xs. entries_of xs ++ (x, c.one.result) ∷ []) c.clear.ensures.items
    ∙ ap (λ w. (x, w) ∷ []) c.one.ensures
    ∙ sym (ap (λ side. (filter_keys op side x).entries) c.in-Left.is ∙ keys-kept op x (ap (λ (op : FilterParts). passes op.test x) (sym c.self.view_is) ∙ sym c.in_ok-passes-in-Left.ensures ∙ c.if-branch.true))

pub returns-else-branch-clause-ok : goal.returns-else-branch-clause-ok
returns-else-branch-clause-ok c =
    let op = c.args.self.now in
    let x = c.args.row.now in
    ap entries_of c.clear.ensures.items
    ∙ sym (ap (λ side. (filter_keys op side x).entries) c.in-Left.is ∙ keys-left_out op x (ap (λ (op : FilterParts). passes op.test x) (sym c.self.view_is) ∙ sym c.in_ok-passes-in-Left.ensures ∙ c.if-branch.false))

pub returns-in-Right-clause-ok : goal.returns-in-Right-clause-ok
returns-in-Right-clause-ok c =
    ap entries_of c.clear.ensures.items ∙ sym (ap (λ side. (filter_keys c.args.self.now side c.args.row.now).entries) c.in-Right.is ∙ entries-empty)
