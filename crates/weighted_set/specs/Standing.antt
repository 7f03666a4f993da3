-- What an operator means, what it holds, and which changes of its inputs it can be asked for.
use Rattle.std.specs.Prelude.{◌≡◌, ℕ, ◌+◌, ◌*◌, ◌≤◌, Bool, false, true, List, Option, Some, None}
use Rattle.datasets.specs.Dataset.{Dataset}
use Rattle.weighted_set.specs.Changes.{IsChangeList}
use Rattle.weighted_set.specs.Held.{AllInRange}
use Rattle.weighted_set.specs.declared.weighted.Change.{Change}

-- what an operator makes of its two inputs; an operator of one input leaves the right one empty
pub record Meaning : Type 0 where
  -- the inputs are of the kind that the operator is made for
  pub takes : Dataset → Dataset → Bool
  -- no value that the operator passes through is out of range
  pub fits : Dataset → Dataset → Bool
  pub output : Dataset → Dataset → Dataset
  -- the work of a step from the first two inputs to the last two, where it is bounded
  pub work : Dataset → Dataset → Dataset → Dataset → Option ℕ

-- what an operator means and holds
pub record Standing : Type 1 where
  pub meaning : Meaning
  -- what is kept is what these inputs give
  pub StandsFor : Dataset → Dataset → Type 0
  -- changes are pending, and what is pending is what these inputs give
  pub StandsPending : Dataset → Dataset → Type 0
  pub is_pending : Bool

-- the inputs A and B, for which an operator stands, may become C and D by these changes
pub record MayBecome (of : Standing) (left right : List Change) (A B C D : Dataset) : Type 0 where
  pub stands : of.StandsFor A B
  pub left_changes : IsChangeList left A C
  pub right_changes : IsChangeList right B D
  pub left_in_range : AllInRange A
  pub right_in_range : AllInRange B
  pub fits_before : of.meaning.fits A B ≡ true
  pub takes_before : of.meaning.takes A B ≡ true
  pub takes_after : of.meaning.takes C D ≡ true

-- the operator has answered: it lists what changes in the output, and the inputs C and D fit and are pending
pub record HasAnswered (old new : Standing) (listed : List Change) (A B C D : Dataset) : Type 0 where
  pub changes : IsChangeList listed (old.meaning.output A B) (old.meaning.output C D)
  pub fits : old.meaning.fits C D ≡ true
  pub pending : new.StandsPending C D

-- where the inputs fit, the output's weights are in range
abbrev pub KeepsRange : Meaning → Type 0
KeepsRange m = (A B : Dataset) → AllInRange A → AllInRange B → m.fits A B ≡ true → AllInRange (m.output A B)

-- the operator stands for some inputs that these changes can be made to
abbrev pub HasInputs : Standing → List Change → List Change → Type 0
HasInputs of left right =
    (A : Dataset) × ((B : Dataset) × ((C : Dataset) × ((D : Dataset) × MayBecome of left right A B C D)))

-- whatever inputs these changes make of those before, the operator has answered them
abbrev pub AnswersChanges : Standing → Standing → List Change → List Change → List Change → Type 0
AnswersChanges old new left right listed =
    (A B C D : Dataset) → MayBecome old left right A B C D → HasAnswered old new listed A B C D

-- whatever inputs these changes make of those before, they don't fit
abbrev pub ChangesMisfit : Standing → List Change → List Change → Type 0
ChangesMisfit of left right =
    (A B C D : Dataset) → MayBecome of left right A B C D → of.meaning.fits C D ≡ false

-- what was kept before is kept
abbrev pub KeepsStanding : Standing → Standing → Type 0
KeepsStanding old new = (A B : Dataset) → old.StandsFor A B → new.StandsFor A B

-- what was pending is kept
abbrev pub CommitsStanding : Standing → Standing → Type 0
CommitsStanding old new = (A B : Dataset) → old.StandsPending A B → new.StandsFor A B

-- ticks: at most eight for each unit of work, where it is bounded
abbrev pub IsWithin : ℕ → Option ℕ → ℕ → Type 0
IsWithin old None new = Unit {0}
IsWithin old (Some n) new = new ≤ old + 8 * n

-- whatever inputs these changes make of those before, the ticks are within the work
abbrev pub KeepsWork : Standing → List Change → List Change → ℕ → ℕ → Type 0
KeepsWork of left right old new =
    (A B C D : Dataset) → MayBecome of left right A B C D → IsWithin old (of.meaning.work A B C D) new
