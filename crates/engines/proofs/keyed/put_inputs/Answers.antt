-- A product is out of range on the left, or on the right.
use Rattle.std.proofs.Common.{inl, inr}
use Rattle.std.proofs.lemmas.Result.{err_from_is_err_and}
use Rattle.engines.proofs.keyed.put_inputs.Goals as goal

pub returns-in_err-put_changes-clause-range : goal.returns-in_err-put_changes-clause-range
returns-in_err-put_changes-clause-range g c =
    let p = err_from_is_err_and c.from_residual-in_err-put_changes.result c.from_residual-in_err-put_changes.ensures.1 in
    rw (p.1, p.2) (λ e. inl (c.in_err-put_changes.ensures.range e))

pub returns-in_err-put_changes-2-clause-range : goal.returns-in_err-put_changes-2-clause-range
returns-in_err-put_changes-2-clause-range g c =
    let p = err_from_is_err_and c.from_residual-in_err-put_changes-2.result c.from_residual-in_err-put_changes-2.ensures.1 in
    rw (p.1, p.2) (λ e. inr (c.in_err-put_changes-2.ensures.range e))
