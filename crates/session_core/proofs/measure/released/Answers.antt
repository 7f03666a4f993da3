use Rattle.std.proofs.Common.{◌∙◌, ◌++◌, ◌∷◌, [], SFits, ap, arith, sym}
use mir.Syntax.{w64, w128}
use Rattle.request_machine.specs.Stages.{release}
use Rattle.std.proofs.lemmas.Int.{ints, to_z-of_z}
use Rattle.std.specs.Prelude.{ℤ}
use Rattle.std.proofs.lemmas.Result.{err_from_is_err_and}
use Rattle.session_core.proofs.Released.{Draws-stopped, ReleasedBefore-more}
use Rattle.session_core.proofs.measure.released.Goals as goal

pub returns-in_err-push : goal.returns-in_err-push
returns-in_err-push g c =
    let p = err_from_is_err_and c.from_residual-in_err-push.result c.from_residual-in_err-push.ensures.1 in
    rw (p.1) (Draws-stopped _ _ _ _ _ _ c.args.epsilon c.args.weights.now c.loop-weight.weight-index c.loop-weight.values.items c.loop-weight.invariant c.in-Ok.number p.0 c.loop-weight-test.true
    c.in-Ok.ensures.number c.in-Ok.ensures.cause.later)

pub loop-weight-preserved : goal.loop-weight-preserved
loop-weight-preserved g c =
    let fits : SFits w128 c.released_with.result = omega (arith, ints) in
    let small : SFits w64 c.in-Ok.number = omega (arith, ints) in
    ReleasedBefore-more _ _ _ _ _ _ c.args.epsilon c.args.weights.now c.loop-weight.weight-index c.loop-weight.values.items c.loop-weight.invariant c.weight-item.result c.in-Ok.number _ c.loop-weight-test.true
    (sym c.weight-item.is) c.in-Ok.ensures.number c.in-Ok.ensures.cause.later
    (c.in_ok-push.ensures.items ∙ ap (λ (v : ℤ). c.loop-weight.values.items ++ v ∷ []) (to_z-of_z w128 c.released_with.result fits ∙ c.released_with.ensures ∙ ap (release c.weight-item.result) (to_z-of_z w64 c.in-Ok.number small)))
