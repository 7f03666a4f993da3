-- What the graph stands for keeps the types of its sources.
use Rattle.std.proofs.Common.{subst}
use Rattle.plan_model.specs.Types.{Keeps}
use Rattle.flow_graph.specs.Fresh.{committed_family}
use Rattle.graph_tests.proofs.paths.is_as_fresh.Goals as goal

pub build-requires-clause-keeps : goal.build-requires-clause-keeps
build-requires-clause-keeps g c =
    subst (λ types. Keeps types (committed_family c.args.trial.now.sources)) c.requires.running.of_types c.requires.running.stands.plan.family.keeps
