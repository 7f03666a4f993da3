use Rattle.graph_tests.specs.Trials.{IsRunning}
use Rattle.graph_tests.proofs.graphs.run.Given as goal

abbrev pub invariant-loop-at : goal.invariant-loop-at
invariant-loop-at g l = IsRunning l.trial.graph l.trial.types l.trial.sources
