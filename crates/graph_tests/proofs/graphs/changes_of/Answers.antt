-- The rows that are added have the columns of their source.
use Rattle.std.specs.Prelude.{◌≡◌, ◌<◌, All, IsTrue, length, true}
use Rattle.std.proofs.Common.{arith, rules, subst}
use Rattle.record_text.specs.KindLists.{kinds_of}
use Rattle.weighted_set.specs.declared.weighted.Change.{Change}
use Rattle.plan_model.specs.Types.{Keeps}
use Rattle.flow_graph.specs.Fresh.{committed_family}
use Rattle.graph_tests.proofs.Trials.{MayPut-added}
use Rattle.graph_tests.proofs.graphs.changes_of.Goals as goal

pub returns : goal.returns
returns g c =
    let trial = c.args.trial.now in
    let within : c.args.at < length trial.sources = omega arith in
    let signed : c.at-source_type.result.signed ≡ true = search rules in
    let fits : IsTrue c.have_columns.result = search rules in
    MayPut-added trial.types trial.sources c.args.at c.at-source_type.result c.at.result.now c.as_slice.result.now c.in_ok-changes.changes.items within c.at-source_type.ensures c.at.ensures signed c.in_ok-changes.ensures.ok (subst (λ types. Keeps types (committed_family trial.sources)) c.requires.of_types c.requires.stands.plan.family.keeps)
    (subst (λ changes. All (λ (change : Change). kinds_of change.row ≡ c.at-source_type.result.kinds) changes) c.as_slice-2.ensures.value (c.have_columns.ensures fits))
