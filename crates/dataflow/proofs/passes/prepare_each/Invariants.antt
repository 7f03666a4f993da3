use Rattle.std.proofs.Common.{◌≡◌, List, length, map}
use Rattle.weighted_set.specs.Standing.{IsWithin}
use Rattle.weighted_set.specs.declared.weighted.Change.{Change}
use Rattle.dataflow.specs.Evaluation.{Family}
use Rattle.dataflow.specs.Standing.{MayChange, StepsStand, meanings}
use Rattle.dataflow.specs.Work.{works_before}
use Rattle.dataflow.proofs.Next.{AreNext}
use Rattle.dataflow.proofs.Pairs.{IsKept, Passed}
use Rattle.dataflow.proofs.passes.prepare_each.Given as goal

abbrev pub invariant-loop-i : goal.invariant-loop-i
invariant-loop-i g l =
    let of = g.N.Operator.standing in
    let sources : List (List Change) = map (λ s. s.now) l.sources in
    let lists : List (List Change) = map (λ s. s.items) l.lists.items in
    record {
      size : length l.lists.items ≡ l.i;
      passed : Passed (λ _ n m. IsKept of n m) l.fn.nodes l.nodes l.i;
      next : (F G : Family) → StepsStand of l.fn.nodes l.wires F → MayChange (meanings of l.fn.nodes) l.wires sources F G → AreNext of l.fn.nodes l.wires sources l.nodes lists F G l.i;
      work : (F G : Family) → StepsStand of l.fn.nodes l.wires F → MayChange (meanings of l.fn.nodes) l.wires sources F G → IsWithin l.fn.steps (works_before (meanings of l.fn.nodes) l.wires F G l.i) l.steps;
    }
