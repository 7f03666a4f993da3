-- Datasets keep their columns as rows with these columns change.
use Rattle.std.specs.Prelude.{◌≡◌, All, true, false, cond, List, [], ◌∷◌}
use Rattle.std.proofs.Common.{refl, ap, ◌∙◌}
use Rattle.std.proofs.lemmas.List.Elements.{All-head, All-tail}
use Rattle.ratios.specs.Ratio.{Ratio}
use Rattle.record_text.specs.KindLists.{kinds_of}
use Rattle.record_text.specs.declared.kinds.Kind.{Kind}
use Rattle.datasets.proofs.Rows.{same_row-equal}
use Rattle.datasets.proofs.Weights.{at-set_at}
use Rattle.datasets.specs.Dataset.{Dataset, at, rows, set_at}
use Rattle.datasets.specs.Entries.{Row, same_row}
use Rattle.operators.proofs.SingleWeights.{AllByRecursion-has_row}
use Rattle.op_parts.proofs.Members.{at-weighed}
use Rattle.plan_model.specs.Types.{HasColumns}
use Rattle.weighted_set.proofs.Parts.{at-present}
use Rattle.weighted_set.specs.Changes.{applied}
use Rattle.weighted_set.specs.declared.weighted.Change.{Change}

HasColumns-set_at : (cols : List Kind) (A : Dataset) (x : Row) (w : Ratio) → HasColumns cols A → kinds_of x ≡ cols → HasColumns cols (set_at x w A)
HasColumns-set_at cols A x w h e =
    AllByRecursion-has_row (λ y. kinds_of y ≡ cols) (rows (set_at x w A)) (λ y here. elim (same_row y x) as (λ b. same_row y x ≡ b → kinds_of y ≡ cols) [
      | true ↦ λ p. ap kinds_of (same_row-equal y x p) ∙ e
      | false ↦ λ p. at-weighed (λ z. kinds_of z ≡ cols) A y h (λ none. at-present (set_at x w A) y here (at-set_at x w A y ∙ ap (λ b. cond b w (at A y)) p ∙ none))
    ] refl)

-- changes of rows of these columns keep the columns
pub HasColumns-applied : (cols : List Kind) (A : Dataset) (changes : List Change) → HasColumns cols A → All (λ (c : Change). kinds_of c.row ≡ cols) changes → HasColumns cols (applied A changes)
HasColumns-applied cols A [] h each = h
HasColumns-applied cols A (c ∷ changes) h each =
    HasColumns-applied cols (set_at c.row c.new A) changes (HasColumns-set_at cols A c.row c.new h (All-head (λ (d : Change). kinds_of d.row ≡ cols) c changes each)) (All-tail (λ (c : Change). kinds_of c.row ≡ cols) c changes each)
