use Rattle.std.proofs.Common.{ap, set, sym, ◌∙◌}
use Rattle.std.proofs.lemmas.List.{map-set}
use Rattle.datasets.specs.Dataset.{Dataset}
use Rattle.weighted_set.specs.Changes.{applied}
use Rattle.weighted_set.specs.Held.{HeldDatasets}
use Rattle.flow_graph.specs.Fresh.{committed_family}
use Rattle.graph_tests.proofs.Trials.{committed_at}
use Rattle.graph_tests.proofs.graphs.put.Goals as goal

pub returns-clause-put : goal.returns-clause-put
returns-clause-put c =
    let sets = c.args.sources.now in
    map-set (λ (held : HeldDatasets). held.committed) sets c.args.at c.commit.new.self
    ∙ ap (λ (A : Dataset). set (committed_family sets) c.args.at A)
    (c.commit.ensures.committed ∙ c.in_ok-prepare.ensures.ok ∙ ap (λ (A : Dataset). applied A c.args.changes.now) (sym (committed_at sets c.args.at c.at_mut-set.result.now c.at_mut-set.ensures.value)))
