-- All rows of a dataset, as the changes that make them of no rows.
use Rattle.std.specs.Prelude.{◌≡◌, ◌≢◌, true, false, cond, ◌||◌, List, [], ◌∷◌, map, refl}
use Rattle.std.specs.List.{AllByRecursion}
use Rattle.std.proofs.Common.{sym, ap, subst, ◌∙◌}
use Rattle.std.proofs.lemmas.List.Elements.{All-from_recursion}
use Rattle.ratios.specs.Ratio.{Ratio, zero_ratio}
use Rattle.datasets.specs.Dataset.{Dataset, at, empty}
use Rattle.datasets.specs.Entries.{Row, Entries, AreRising, NoneZero, has_row, rows_of, same_row, weight_in}
use Rattle.datasets.proofs.Weights.{at-empty, weight_in-cons}
use Rattle.weighted_set.proofs.Parts.{entries_have_weights}
use Rattle.weighted_set.specs.Changes.{IsChangeList, changed_rows}
use Rattle.weighted_set.specs.declared.weighted.Change.{Change}

-- the weight of a row, as its change from 0
abbrev pub new_change : Row × Ratio → Change
new_change e = record { row = e.0; old = zero_ratio; new = e.1 }

abbrev pub new_changes : Entries → List Change
new_changes es = map new_change es

rows-new_changes : (es : Entries) → changed_rows (new_changes es) ≡ rows_of es
rows-new_changes [] = refl
rows-new_changes (e ∷ es) = ap (λ xs. e.0 ∷ xs) (rows-new_changes es)

-- each entry has its own weight among those that begin with it
module _ (A : Dataset) where
  abbrev IsNew : Change → Type 0
  IsNew c = (c.old ≡ at empty c.row) × (c.new ≡ at A c.row) × (c.old ≢ c.new)

are_new : (A : Dataset) (es : Entries) → NoneZero es → AllByRecursion (λ f. f.1 ≡ at A f.0) es → AllByRecursion (IsNew A) (new_changes es)
are_new A [] n h = tt
are_new A (e ∷ es) n h = ((sym (at-empty e.0), h.0, λ z. n.0 (sym z)), are_new A es n.1 h.1)

weighed_listed : (es : Entries) (x : Row) → (zero_ratio ≡ weight_in es x → ⊥) → has_row (changed_rows (new_changes es)) x ≡ true
weighed_listed [] x n = absurd (n refl)
weighed_listed (e ∷ es) x n =
    elim (same_row x e.0) as (λ b. (zero_ratio ≡ cond b e.1 (weight_in es x) → ⊥) → (b || has_row (changed_rows (new_changes es)) x) ≡ true) [
      | true ↦ λ m. refl
      | false ↦ λ m. weighed_listed es x m
    ] (λ z. n (z ∙ sym (weight_in-cons x e es)))

pub IsChangeList-new_changes : (A : Dataset) → IsChangeList (new_changes A.entries) empty A
IsChangeList-new_changes A = record {
  rising = subst AreRising (sym (rows-new_changes A.entries)) A.rising;
  each = All-from_recursion (IsNew A) (new_changes A.entries) (are_new A A.entries A.none_zero (entries_have_weights A.entries A.rising));
  complete = λ x n. weighed_listed A.entries x (λ z. n (at-empty x ∙ z));
}
