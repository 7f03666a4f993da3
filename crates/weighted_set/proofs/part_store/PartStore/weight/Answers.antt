use Rattle.std.proofs.Common.{ap, sym, subst, ◌∙◌}
use Rattle.std.specs.Prelude.{unwrap_or}
use Rattle.datasets.specs.Dataset.{at}
use Rattle.datasets.proofs.Weights.{at-empty}
use Rattle.weighted_set.specs.Held.{AllInRange}
use Rattle.weighted_set.specs.Parts.{committed_part, empty_part}
use Rattle.weighted_set.proofs.Sets.{AllInRange-empty}
use Rattle.weighted_set.proofs.part_store.PartStore.weight.Goals as goal

pub returns-in-None-clause-value : goal.returns-in-None-clause-value
returns-in-None-clause-value g c =
    let x = c.args.row.now in
    c.zero.ensures
    ∙ sym (at-empty x)
    ∙ ap (λ o. at (unwrap_or o empty_part).committed x) c.in-None.ensures.value
    ∙ ap (λ parts. at (committed_part parts c.args.key.now) x) c.self.view_is

pub returns-in-None-clause-in_range : goal.returns-in-None-clause-in_range
returns-in-None-clause-in_range g c =
    let absent = ap (λ o. (unwrap_or o empty_part).committed) c.in-None.ensures.value ∙ ap (λ parts. committed_part parts c.args.key.now) c.self.view_is in
    subst AllInRange absent AllInRange-empty
