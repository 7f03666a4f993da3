-- A row with a pair out of range is one of the list's.
use Rattle.std.proofs.Common.{Some, ap, sym, ◌∙◌}
use Rattle.std.proofs.lemmas.Option.{slice_get-get_or}
use Rattle.std.proofs.lemmas.Result.{err_from_is_err_and}
use Rattle.op_join.proofs.PairLoops.{all_out}
use Rattle.op_join.proofs.pairs.push_pairs.Goals as goal

pub returns-in_err-push_row_pairs-clause-range : goal.returns-in_err-push_row_pairs-clause-range
returns-in_err-push_row_pairs-clause-range c =
    let xs = c.args.left.now in
    let i = c.loop-entry.entry-index in
    let x = c.entry-item.result in
    let p = err_from_is_err_and c.from_residual.result c.from_residual.ensures.1 in
    rw (p.1, p.2) (λ out.
    all_out c.args.norms xs c.args.right.now i x (slice_get-get_or xs i x c.loop-entry-test.true ∙ ap Some (sym c.entry-item.is)) (c.in_err-push_row_pairs.ensures.range out))
