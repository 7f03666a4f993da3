-- The next atom.
use Rattle.std.proofs.Common.{arith}
use Rattle.std.proofs.lemmas.List.{take_all}
use Rattle.std.proofs.Common.{◌++◌, [], ◌∷◌, ap, sym, take, ◌∙◌}
use Rattle.record_text.proofs.Lists.{front_more}
use Rattle.op_parts.proofs.rows.followed_by.Goals as goal

pub loop-at-preserved : goal.loop-at-preserved
loop-at-preserved c =
    let row = c.args.row.now in (
      c.in_ok-push.ensures.items
          ∙ ap (λ atoms. atoms ++ c.in_ok-copy.copy ∷ []) c.loop-at.invariant.0
          ∙ ap (λ atom. take c.loop-at.at row ++ atom ∷ []) c.in_ok-copy.ensures
          ∙ sym (front_more row c.loop-at.at c.atom.result.now c.atom.ensures.item),
      c.loop-at.invariant.1,
    )

pub returns : goal.returns
returns c =
    c.from_atoms.ensures
    ∙ c.in_ok-push-2.ensures.items
    ∙ ap (λ atoms. atoms ++ c.loop-at.atom-1 ∷ []) (c.loop-at.invariant.0 ∙ take_all c.loop-at.at c.args.row.now (omega (arith, c.len-at-end.ensures.value)))
    ∙ ap (λ atom. c.args.row.now ++ atom ∷ []) c.loop-at.invariant.1
