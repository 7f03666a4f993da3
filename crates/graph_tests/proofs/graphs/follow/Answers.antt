-- The graph follows the source to which rows are added.
use Rattle.std.proofs.Common.{List, subst, sym, ◌∙◌}
use Rattle.plan_model.specs.declared.source_types.SourceType.{SourceType}
use Rattle.flow_graph.specs.Fresh.{committed_family}
use Rattle.flow_graph.specs.Graphs.{StandsFor}
use Rattle.flow_graph.specs.Plans.{TurnsInto}
use Rattle.graph_tests.specs.Trials.{put_at}
use Rattle.graph_tests.proofs.graphs.follow.Goals as goal

pub prepare-requires-clause-inputs : goal.prepare-requires-clause-inputs
prepare-requires-clause-inputs g c =
    let trial = c.args.trial.now in
    let running = c.requires.running in
    let F = committed_family trial.sources in
    let G = put_at F c.args.at c.args.changes.now in
    (F, (G, (running.stands, subst (λ (types : List SourceType). TurnsInto types c.args.at c.args.changes.now F G) (sym running.of_types) c.requires.changes.turns)))

pub returns : goal.returns
returns g c =
    let trial = c.args.trial.now in
    let running = c.requires.running in
    let F = committed_family trial.sources in
    let G = put_at F c.args.at c.args.changes.now in
    let turns = subst (λ (types : List SourceType). TurnsInto types c.args.at c.args.changes.now F G) (sym running.of_types) c.requires.changes.turns in
    record {
      of_types = c.commit.ensures.same.1 ∙ c.prepare.ensures.same.1 ∙ running.of_types;
      stands = subst (StandsFor c.commit.new.self) (sym c.in_ok-put.ensures.put) (c.commit.ensures.committed G (c.in-Ok.ensures.pending F G running.stands turns));
      idle = c.commit.ensures.idle;
      settled = c.in_ok-put.ensures.settled;
    }
