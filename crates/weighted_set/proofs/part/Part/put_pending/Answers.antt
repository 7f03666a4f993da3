use Rattle.std.proofs.Common.{ap, sym, ◌∙◌}
use Rattle.record_text.specs.OrderLaws.{row_ties}
use Rattle.datasets.specs.Dataset.{empty, set_at}
use Rattle.datasets.proofs.Rows.{same_row-equal}
use Rattle.weighted_set.specs.Held.{HeldDatasets}
use Rattle.weighted_set.specs.KeyRows.{datasets_kept}
use Rattle.weighted_set.proofs.OneRow.{set_at-again}
use Rattle.weighted_set.proofs.part.Part.put_pending.Goals as goal

pub returns-then-eq-clause-ok : goal.returns-then-eq-clause-ok
returns-then-eq-clause-ok c =
    let x = c.in-One.there in
    let w = c.args.weight in
    let seen = ap (λ (d : HeldDatasets). d.pending) (sym (ap datasets_kept c.in-One.is) ∙ c.self.view_is) in
    let same = same_row-equal x c.args.row.now (sym (row_ties x c.args.row.now) ∙ sym c.if-eq.ensures) in
    sym (set_at-again x c.in-One.held.pending w empty) ∙ ap (set_at x w) seen ∙ ap (λ y. set_at y w c.args.self.now.pending) same
