use Rattle.std.proofs.Common.{length, ap, sym, ◌∙◌}
use Rattle.std.proofs.lemmas.Bool.{eq-eqb, eqb-true}
use Rattle.datasets.specs.Dataset.{rows}
use Rattle.weighted_set.specs.Held.{HeldDatasets}
use Rattle.weighted_set.specs.KeyRows.{datasets_kept}
use Rattle.weighted_set.proofs.OneRow.{one_row-zero, zero-one_row}
use Rattle.weighted_set.proofs.Sets.{empty_if_no_rows, length-empty}
use Rattle.weighted_set.proofs.part.Part.is_empty.Goals as goal

pub returns-in-One : goal.returns-in-One
returns-in-One c =
    let x = c.in-One.field-0 in
    let w = c.in-One.held.committed in
    let seen = ap (λ (d : HeldDatasets). d.committed) (sym (ap datasets_kept c.in-One.is) ∙ c.self.view_is) in
    (λ zero. sym seen ∙ one_row-zero x w (sym c.is_zero.ensures ∙ zero), λ none. c.is_zero.ensures ∙ zero-one_row x w (seen ∙ none))

pub returns-in-Many : goal.returns-in-Many
returns-in-Many c =
    let A = c.in-Many.set.committed in
    let seen = ap (λ (d : HeldDatasets). d.committed) (sym (ap datasets_kept c.in-Many.is) ∙ c.self.view_is) in (
      λ zero. sym seen ∙ empty_if_no_rows A (sym c.len.ensures ∙ eqb-true c.len.result 0 zero),
      λ none. eq-eqb c.len.result 0 (c.len.ensures ∙ ap (λ B. length (rows B)) (seen ∙ none) ∙ length-empty),
    )
