use Rattle.std.proofs.Common.{sym, true≢false, ◌∙◌}
use Rattle.std.proofs.lemmas.Result.{err_from_is_err_and}
use Rattle.weighted_set.specs.Parts.{pending_part}
use Rattle.engines.proofs.WholeInputs.{parts_of_all, products_of_all, rows_of_all}
use Rattle.engines.proofs.whole.parts_of.Goals as goal

pub put_changes-requires : goal.put_changes-requires
put_changes-requires g c =
    rows_of_all (g.O.PartOp.TakesRow c.args.op.now c.args.side) c.args.input.now.committed c.as_slice.result.now c.in_ok-rows.rows.items c.as_slice.ensures.value c.requires.rows c.in_ok-rows.ensures.changes

pub returns-in_err-put_changes-clause-in_range : goal.returns-in_err-put_changes-clause-in_range
returns-in_err-put_changes-clause-in_range g c =
    let keys = g.O.PartOp.keys c.args.op.now c.args.side in
    let p = err_from_is_err_and c.from_residual-in_err-put_changes.result c.from_residual-in_err-put_changes.ensures.1 in
    let fits = products_of_all keys c.args.input.now.committed c.as_slice.result.now c.in_ok-rows.rows.items c.as_slice.ensures.value c.in_ok-rows.ensures.changes c.requires.factored in
    rw (p.1, p.2) (λ e. true≢false (sym fits ∙ c.in_err-put_changes.ensures.range e))

pub returns-clause-made : goal.returns-clause-made
returns-clause-made g c =
    let keys = g.O.PartOp.keys c.args.op.now c.args.side in
    record {
      parts = λ k.
          c.commit.ensures.committed k
          ∙ parts_of_all keys (pending_part c.new-store.result) (pending_part c.put_changes.new.store) c.args.input.now.committed c.as_slice.result.now c.in_ok-rows.rows.items c.as_slice.ensures.value c.in_ok-rows.ensures.changes c.new-store.ensures.pending (c.in_ok-put_changes.ensures.pending _) k;
      settled = λ k. c.commit.ensures.pending k ∙ sym (c.commit.ensures.committed k);
    }
