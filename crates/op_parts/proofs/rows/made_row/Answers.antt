-- Each expression has a kind on the row, and its value is the next atom.
use Rattle.std.proofs.Common.{◌++◌, [], ◌∷◌, ap, refl, sym, ◌∙◌}
use Rattle.record_text.specs.KindLists.{kinds_of}
use Rattle.op_parts.proofs.MadeRows.{row_of-more, typed_at}
use Rattle.op_parts.proofs.rows.made_row.Goals as goal

pub eval-requires : goal.eval-requires
eval-requires c =
    typed_at (kinds_of c.args.row.now) c.args.exprs.now c.loop-at.at c.at.result.now c.args.row.now c.requires refl c.at.ensures

pub loop-at-preserved : goal.loop-at-preserved
loop-at-preserved c =
    c.in_ok-push.ensures.items
    ∙ ap (λ atoms. atoms ++ c.in_ok-atom.atom ∷ []) c.loop-at.invariant
    ∙ sym (row_of-more c.args.exprs.now c.loop-at.at c.at.result.now c.args.row.now c.in_ok-atom.atom c.at.ensures c.in_ok-atom.ensures.value)
