use Rattle.std.proofs.Common.{subst, sym}
use Rattle.plan_model.specs.Types.{Keeps}
use Rattle.flow_graph.specs.Fresh.{committed_family}
use Rattle.graph_tests.proofs.Trials.{Keeps-two}
use Rattle.graph_tests.proofs.graphs.start.Goals as goal

pub build-requires-clause-keeps : goal.build-requires-clause-keeps
build-requires-clause-keeps g c = subst (λ sets. Keeps c.args.types (committed_family sets)) (sym c.in_ok-sources.ensures) (Keeps-two c.args.types c.requires.two)
