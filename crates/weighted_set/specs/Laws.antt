-- Laws of lists of changes, each the contract of a function.
use Rattle.std.specs.Prelude.{◌≡◌, List}
use Rattle.datasets.specs.Dataset.{Dataset}
use Rattle.weighted_set.specs.declared.weighted.Change.{Change}
use Rattle.weighted_set.specs.Changes.{IsChangeList, AreChangesOf, applied}

-- the change list from A to B can be made to A, and makes B of it
abbrev pub ChangeListLeadsThere : Type 0
ChangeListLeadsThere =
    (changes : List Change) (A B : Dataset) → IsChangeList changes A B → AreChangesOf changes A × (applied A changes ≡ B)

-- changes that can be made to A are the change list from A to what they make of it
abbrev pub ChangesAreChangeList : Type 0
ChangesAreChangeList =
    (changes : List Change) (A : Dataset) → AreChangesOf changes A → IsChangeList changes A (applied A changes)
