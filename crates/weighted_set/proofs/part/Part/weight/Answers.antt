use Rattle.std.proofs.Common.{ap, cond, subst, sym, ◌∙◌}
use Rattle.ratios.specs.Ratio.{zero_ratio}
use Rattle.record_text.specs.OrderLaws.{row_ties}
use Rattle.datasets.specs.Dataset.{at, empty}
use Rattle.datasets.proofs.Rows.{same_row-turned}
use Rattle.weighted_set.specs.Held.{AllInRange, HeldDatasets}
use Rattle.weighted_set.specs.KeyRows.{datasets_kept}
use Rattle.weighted_set.proofs.OneRow.{at-one_row}
use Rattle.weighted_set.proofs.Sets.{AllInRange-empty, AllInRange-set_at}
use Rattle.weighted_set.proofs.part.Part.weight.Goals as goal

pub returns-then-eq-clause-value : goal.returns-then-eq-clause-value
returns-then-eq-clause-value c =
    let x = c.in-One.there in
    let y = c.args.row.now in
    let w = c.in-One.held.committed in
    let seen = ap (λ (d : HeldDatasets). d.committed) (sym (ap datasets_kept c.in-One.is) ∙ c.self.view_is) in
    let same = same_row-turned y x ∙ sym (row_ties x y) ∙ sym c.if-eq.ensures in
    sym (at-one_row x y w ∙ ap (λ b. cond b w zero_ratio) same) ∙ ap (λ A. at A y) seen

pub returns-then-eq-clause-in_range : goal.returns-then-eq-clause-in_range
returns-then-eq-clause-in_range c =
    let seen = ap (λ (d : HeldDatasets). d.committed) (sym (ap datasets_kept c.in-One.is) ∙ c.self.view_is) in
    subst AllInRange seen (AllInRange-set_at c.in-One.there c.in-One.held.committed empty c.numer-numerator.ensures.in_range AllInRange-empty)

pub returns-else-eq-clause-value : goal.returns-else-eq-clause-value
returns-else-eq-clause-value c =
    let x = c.in-One.there in
    let y = c.args.row.now in
    let w = c.in-One.held.committed in
    let seen = ap (λ (d : HeldDatasets). d.committed) (sym (ap datasets_kept c.in-One.is) ∙ c.self.view_is) in
    let other = same_row-turned y x ∙ sym (row_ties x y) ∙ sym c.if-eq.ensures in
    c.zero.ensures ∙ sym (at-one_row x y w ∙ ap (λ b. cond b w zero_ratio) other) ∙ ap (λ A. at A y) seen

pub returns-else-eq-clause-in_range : goal.returns-else-eq-clause-in_range
returns-else-eq-clause-in_range c =
    let seen = ap (λ (d : HeldDatasets). d.committed) (sym (ap datasets_kept c.in-One.is) ∙ c.self.view_is) in
    subst AllInRange seen (AllInRange-set_at c.in-One.there c.in-One.held.committed empty c.numer-numerator.ensures.in_range AllInRange-empty)
