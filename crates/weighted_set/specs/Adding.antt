-- What adding weights to a dataset answers.
use Rattle.std.specs.Prelude.{◌≡◌, ◌≢◌, ℕ, Bool, true, false, ◌⊎◌, List, Option, Some, None}
use Rattle.std.specs.List.{position_from}
use Rattle.ratios.specs.Range.{InRange}
use Rattle.ratios.specs.Ratio.{ratio_add}
use Rattle.datasets.specs.Dataset.{Dataset, at, with_added, first_weight_out_of_range, first_negative, is_negative}
use Rattle.weighted_set.specs.declared.adding.AddFault.{AddFault}
use Rattle.weighted_set.specs.declared.adding.AddFault.TheVariants.{Range, Negative, Memory}
use Rattle.weighted_set.specs.declared.weighted.Change.{Change}
use Rattle.weighted_set.specs.declared.weighted.Weighted.{Weighted}
use Rattle.weighted_set.specs.Changes.{entries_of, IsChangeList}
use Rattle.weighted_set.specs.Held.{HeldRows, HoldsStep}

-- every weight is in range once it is added, one by one
abbrev pub StaysInRange : Dataset → List Weighted → Type 0
StaysInRange A added = first_weight_out_of_range A (entries_of added) ≡ None

-- weights below 0 are allowed, or no added row ends below 0
abbrev pub EndsAllowed : Dataset → List Weighted → Bool → Type 0
EndsAllowed A added signed = (signed ≡ true) ⊎ (first_negative A (entries_of added) ≡ None)

-- the weights can be added to A, and these changes do so
pub record AreChangesOfAdding (A : Dataset) (added : List Weighted) (signed : Bool) (changes : List Change)
    : Type 0 where
  pub in_range : StaysInRange A added
  pub allowed : EndsAllowed A added signed
  pub lead_there : IsChangeList changes A (with_added A (entries_of added))

-- c adds the weight of one to its row, which weighs something else then, in range and allowed
pub record IsAddedChange (A : Dataset) (signed : Bool) (one : Weighted) (c : Change) : Type 0 where
  pub row : c.row ≡ one.row
  pub old : c.old ≡ at A one.row
  pub new : c.new ≡ ratio_add (at A one.row) one.weight
  pub in_range : InRange c.new
  pub changes : c.old ≢ c.new
  pub allowed : signed ≡ false → is_negative c.new ≡ false

-- the rows es hold the weights of A, and what they are once the weights are added
abbrev pub HoldsAdded : HeldRows → Dataset → List Weighted → Type 0
HoldsAdded es A added = HoldsStep es A (with_added A (entries_of added))

-- it is the first place whose row ends below 0 in whatever the rows es make of A
abbrev pub IsFirstBelowZero : HeldRows → Dataset → List Weighted → Option ℕ → Type 0
IsFirstBelowZero es A added place =
    (B : Dataset) → HoldsStep es A B → place ≡ position_from (λ e. is_negative (at B e.0)) 0 (entries_of added)

-- the first fault that adding the weights to A runs into; Memory is tied to nothing
abbrev pub IsAddFault : Dataset → List Weighted → Bool → AddFault → Type 0
IsAddFault A added signed (Range place) = first_weight_out_of_range A (entries_of added) ≡ Some place
IsAddFault A added signed (Negative place) =
    StaysInRange A added × (signed ≡ false) × (first_negative A (entries_of added) ≡ Some place)
IsAddFault A added signed Memory = Unit {0}
