-- The changes from one dataset to another.
use Rattle.std.specs.Prelude.{◌≡◌, true, false, cond, ◌||◌, List, [], ◌∷◌, ◌++◌, filter, map, MatchOption, Some, None, refl}
use Rattle.std.specs.List.{AllByRecursion}
use Rattle.std.specs.Map.{lookup}
use Rattle.std.proofs.Common.{sym, ap, subst, ◌∙◌}
use Rattle.std.proofs.lemmas.Bool.{or_parts}
use Rattle.std.proofs.Math.Bool.{or-true}
use Rattle.std.proofs.lemmas.List.Elements.{All-from_recursion}
use Rattle.datasets.specs.Dataset.{Dataset, at, rows, rows_of_either}
use Rattle.datasets.specs.Entries.{AreRising, Row, has_row, same_row}
use Rattle.datasets.proofs.RowLists.{AreRising-rows_of_either, has_row-with_rows}
use Rattle.datasets.proofs.Rows.{same_row-equal, same_row-itself}
use Rattle.datasets.proofs.Weights.{at-absent}
use Rattle.weighted_set.specs.declared.held.Held.{Held}
use Rattle.weighted_set.specs.declared.weighted.Change.{Change}
use Rattle.weighted_set.specs.Changes.{IsChangeList}
use Rattle.weighted_set.specs.Held.{HeldRows, HoldsStep, held_changes, is_changed}
use Rattle.weighted_set.specs.Merging.{both, changes_between, merged}
use Rattle.weighted_set.proofs.ChangeLists.{held_changes_lead}
use Rattle.weighted_set.proofs.Merged.{walk_all}

-- ---- each row of a list is in it
also_in : (x : Row) (xs ys : List Row) → AllByRecursion (λ y. has_row xs y ≡ true) ys → AllByRecursion (λ y. has_row (x ∷ xs) y ≡ true) ys
also_in x xs [] h = tt
also_in x xs (y ∷ ys) h = (ap (λ b. same_row y x || b) h.0 ∙ or-true (same_row y x), also_in x xs ys h.1)

all_in : (xs : List Row) → AllByRecursion (λ y. has_row xs y ≡ true) xs
all_in [] = tt
all_in (x ∷ xs) = (ap (λ b. b || has_row xs x) (same_row-itself x), also_in x xs xs (all_in xs))

-- ---- rows with what h gives of them
module _ (h : Row → Held) where
  abbrev holding : List Row → HeldRows
  holding xs = map (λ x. (x, h x)) xs

  rows-holding : (xs : List Row) → map (λ e. e.0) (holding xs) ≡ xs
  rows-holding [] = refl
  rows-holding (x ∷ xs) = ap (λ ys. x ∷ ys) (rows-holding xs)

  lookup-holding : (xs : List Row) (x : Row) → lookup (same_row x) (holding xs) ≡ cond (has_row xs x) (Some (h x)) None
  lookup-holding [] x = refl
  lookup-holding (y ∷ ys) x =
      elim (same_row x y) as (λ b. same_row x y ≡ b → cond b (Some (h y)) (lookup (same_row x) (holding ys)) ≡ cond (b || has_row ys x) (Some (h x)) None) [
        | true ↦ λ p. ap (λ z. Some (h z)) (sym (same_row-equal x y p))
        | false ↦ λ p. lookup-holding ys x
      ] refl

  found-holding : (xs ys : List Row) → AllByRecursion (λ y. has_row xs y ≡ true) ys → AllByRecursion (λ e. lookup (same_row e.0) (holding xs) ≡ Some e.1) (holding ys)
  found-holding xs [] m = tt
  found-holding xs (y ∷ ys) m = (lookup-holding xs y ∙ ap (λ b. cond b (Some (h y)) None) m.0, found-holding xs ys m.1)

-- ---- the changes from A to B
module _ (A B : Dataset) where
  abbrev weights : Row → Held
  weights x = record { committed = at A x; pending = at B x }

  abbrev between : HeldRows
  between = holding weights (rows_of_either A B)

  weights_held : HoldsStep between A B
  weights_held x =
      subst (λ o. MatchOption o (at B x ≡ at A x) (λ k. (k.committed ≡ at A x) × (k.pending ≡ at B x))) (sym (lookup-holding weights (rows_of_either A B) x))
      (elim (has_row (rows_of_either A B) x) as (λ b. has_row (rows_of_either A B) x ≡ b → MatchOption (cond b (Some (weights x)) None) (at B x ≡ at A x) (λ k. (k.committed ≡ at A x) × (k.pending ≡ at B x))) [
        | true ↦ λ p. (refl, refl)
        | false ↦ λ p.
            let absent = or_parts (has_row (rows A) x) (has_row (rows B) x) (sym (has_row-with_rows (rows A) (rows B) x) ∙ p) in
            at-absent B x absent.1 ∙ sym (at-absent A x absent.0)
      ] refl)

  rising : AreRising (map (λ e. e.0) between)
  rising = subst AreRising (sym (rows-holding weights (rows_of_either A B))) (AreRising-rows_of_either A B)

  pub changes_between_lead : IsChangeList (changes_between A B) A B
  changes_between_lead =
      let xs = rows_of_either A B in
      held_changes_lead A B between rising (All-from_recursion (λ e. lookup (same_row e.0) between ≡ Some e.1) between (found-holding weights xs xs (all_in xs))) weights_held

  pub changes_walked : changes_between A B ≡ held_changes (merged both A.entries B.entries)
  changes_walked = ap held_changes (walk_all both A.entries B.entries A.rising B.rising)

-- ---- one step of the walk
pub held_changes-cons : (e : Row × Held) (es : HeldRows) → held_changes (e ∷ es) ≡ held_changes (e ∷ []) ++ held_changes es
held_changes-cons e es =
    let change : Row × Held → Change = λ d. record { row = d.0; old = d.1.committed; new = d.1.pending } in
    let rest = filter (λ d. is_changed d.1) es in
    elim (is_changed e.1) as (λ b. map change (cond b (e ∷ rest) rest) ≡ map change (cond b (e ∷ []) []) ++ map change rest) [ true ↦ refl | false ↦ refl ]
