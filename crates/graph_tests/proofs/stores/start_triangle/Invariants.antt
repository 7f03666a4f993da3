use Rattle.graph_tests.specs.Trials.{IsRunning}
use Rattle.graph_tests.proofs.stores.start_triangle.Given as goal

abbrev pub invariant-loop-edge : goal.invariant-loop-edge
invariant-loop-edge g l = IsRunning l.trial.graph l.trial.types l.trial.sources
