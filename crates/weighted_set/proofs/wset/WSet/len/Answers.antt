use Rattle.std.proofs.Common.{length, ap, sym, ◌∙◌}
use Rattle.std.proofs.lemmas.List.{length-map}
use Rattle.datasets.specs.Dataset.{rows}
use Rattle.datasets.specs.Entries.{rows_of}
use Rattle.weighted_set.proofs.WeightSets.{entries_kept}
use Rattle.weighted_set.proofs.wset.WSet.len.Goals as goal

pub returns : goal.returns
returns c =
    let es = c.self.inside.table.entries in
    c.len.ensures.len
    ∙ sym (length-map es (λ e. e.0))
    ∙ sym (ap (λ fs. length (rows_of fs)) (entries_kept es c.self.invariant))
    ∙ ap (λ A. length (rows A)) c.self.view_is
