use Rattle.graph_tests.specs.Trials.{IsRunning}
use Rattle.graph_tests.proofs.paths.put_ring.Given as goal

abbrev pub invariant-loop-node : goal.invariant-loop-node
invariant-loop-node g l = IsRunning l.trial.graph l.trial.types l.trial.sources
