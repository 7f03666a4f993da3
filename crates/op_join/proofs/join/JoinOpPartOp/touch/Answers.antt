-- The key of a row on either side.
use Rattle.std.proofs.Common.{◌++◌, [], ◌∷◌, ap, sym, ◌∙◌}
use Rattle.plan_model.specs.Evaluation.{row_of}
use Rattle.ratios.specs.Ratio.{one_ratio}
use Rattle.weighted_set.specs.Changes.{entries_of}
use Rattle.op_parts.proofs.OneRows.{entries-one_key}
use Rattle.op_join.specs.Join.{side_key}
use Rattle.op_join.proofs.join.JoinOpPartOp.touch.Goals as goal

pub returns-clause-ok : goal.returns-clause-ok
returns-clause-ok c =
    let op = c.args.self.now in
    let x = c.args.row.now in
    c.in_ok-push_made.ensures.ok
    ∙ ap (λ xs. entries_of xs ++ (c.in_ok-key.key, c.one.result) ∷ []) c.clear.ensures.items
    ∙ ap (λ w. (c.in_ok-key.key, w) ∷ []) c.one.ensures
    ∙ ap (λ k. (k, one_ratio) ∷ []) (c.in_ok-key.ensures ∙ ap (λ es. row_of es x) c.key_of.ensures.key)
    ∙ sym (entries-one_key (row_of (side_key op c.args.side) x))
