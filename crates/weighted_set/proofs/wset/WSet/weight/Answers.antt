use Rattle.std.proofs.Common.{ap, sym, ◌∙◌}
use Rattle.std.specs.Prelude.{unwrap_or}
use Rattle.ratios.specs.Ratio.{zero_ratio}
use Rattle.datasets.specs.Dataset.{at}
use Rattle.datasets.proofs.Weights.{at-dataset_of}
use Rattle.weighted_set.proofs.wset.WSet.weight.Goals as goal

pub returns-in-Some-clause-value : goal.returns-in-Some-clause-value
returns-in-Some-clause-value c =
    let x = c.args.row.now in
    ap (λ o. unwrap_or o zero_ratio) c.in-Some.ensures.value
    ∙ sym (at-dataset_of c.self.inside.table.entries x)
    ∙ ap (λ A. at A x) c.self.view_is

pub returns-in-None-clause-value : goal.returns-in-None-clause-value
returns-in-None-clause-value c =
    let x = c.args.row.now in
    c.zero.ensures
    ∙ ap (λ o. unwrap_or o zero_ratio) c.in-None.ensures.value
    ∙ sym (at-dataset_of c.self.inside.table.entries x)
    ∙ ap (λ A. at A x) c.self.view_is
