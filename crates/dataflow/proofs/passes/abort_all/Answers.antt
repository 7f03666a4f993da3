use Rattle.std.proofs.Common.{◌≡◌, ◌<◌, false, get_or, length, arith}
use Rattle.dataflow.specs.Standing.{KeepsInputs}
use Rattle.dataflow.proofs.Pairs.{Passed-more, Passed-next, of_each_new, pairs_at, same_meanings}
use Rattle.dataflow.proofs.passes.abort_all.Goals as goal

pub loop-i-preserved : goal.loop-i-preserved
loop-i-preserved g c =
    let of = g.N.Operator.standing in
    let old = c.args.nodes.now in
    let new = c.loop-i.nodes in
    let i = c.loop-i.i in
    let n = get_or new i c.index-nodes-i.result in
    let m = c.abort.new.self in
    let e = c.abort.ensures in
    let within : i < length new = omega arith in
    Passed-more (λ _ n m. ((of m).is_pending ≡ false) × KeepsInputs of n m × ((of m).meaning ≡ (of n).meaning)) old new i n m within
    (Passed-next old new i c.index-nodes-i.result c.loop-i.invariant within) (e.idle, e.committed, e.same) c.loop-i.invariant

pub returns-clause-idle : goal.returns-clause-idle
returns-clause-idle g c = λ i m f. of_each_new (λ _ m. (g.N.Operator.standing m).is_pending ≡ false) c.args.nodes.now c.loop-i.nodes c.loop-i.i (omega arith) (λ j n m p. p.0) c.loop-i.invariant i m f

pub returns-clause-committed : goal.returns-clause-committed
returns-clause-committed g c = λ i n m e f. (pairs_at c.args.nodes.now c.loop-i.nodes c.loop-i.i (omega arith) c.loop-i.invariant i n m e f).1

pub returns-clause-same : goal.returns-clause-same
returns-clause-same g c =
    same_meanings g.N.Operator.standing c.args.nodes.now c.loop-i.nodes c.loop-i.invariant.size (λ i n m e f. (pairs_at c.args.nodes.now c.loop-i.nodes c.loop-i.i (omega arith) c.loop-i.invariant i n m e f).2)
