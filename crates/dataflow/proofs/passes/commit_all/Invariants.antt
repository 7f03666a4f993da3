use Rattle.std.proofs.Common.{◌≡◌, false}
use Rattle.dataflow.specs.Standing.{CommitsInputs}
use Rattle.dataflow.proofs.Pairs.{Passed}
use Rattle.dataflow.proofs.passes.commit_all.Given as goal

abbrev pub invariant-loop-i : goal.invariant-loop-i
invariant-loop-i g l =
    let of = g.N.Operator.standing in
    Passed (λ _ n m. ((of m).is_pending ≡ false) × CommitsInputs of n m × ((of m).meaning ≡ (of n).meaning)) l.fn.nodes l.nodes l.i
