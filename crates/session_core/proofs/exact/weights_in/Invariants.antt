use Rattle.std.proofs.Common.{◌≡◌, map, take}
use Rattle.datasets.specs.Dataset.{at}
use Rattle.session_core.proofs.exact.weights_in.Given as goal

abbrev pub invariant-loop-row : goal.invariant-loop-row
invariant-loop-row l = l.weights.items ≡ map (at l.set.committed) (take l.row-index l.rows)
