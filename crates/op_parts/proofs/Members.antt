-- What holds of each row that has a weight, and of each member by a test.
use Rattle.std.specs.Prelude.{◌≡◌, ◌≢◌, Bool, true, false, ◌&&◌, List, [], ◌∷◌, refl}
use Rattle.std.specs.List.{AllByRecursion, list_all}
use Rattle.std.proofs.Common.{ap₂}
use Rattle.std.proofs.lemmas.Bool.{and_parts}
use Rattle.ratios.specs.Ratio.{zero_ratio}
use Rattle.datasets.specs.Dataset.{Dataset, at, rows}
use Rattle.datasets.specs.Entries.{Row, has_row}
use Rattle.datasets.proofs.Members.{at-member}
use Rattle.datasets.proofs.Weights.{at-absent}

-- what holds of each row of a dataset holds of a row with a weight
pub at-weighed : (P : Row → Type 0) (A : Dataset) (x : Row) → AllByRecursion P (rows A) → at A x ≢ zero_ratio → P x
at-weighed P A x h weighed = here (has_row (rows A) x) (at-absent A x) (at-member P (rows A) x h)
  where
    here : (b : Bool) → (b ≡ false → at A x ≡ zero_ratio) → (b ≡ true → P x) → P x
    here true absent found = found refl
    here false absent found = absurd (weighed (absent refl))

pub AllByRecursion-from_list_all : {X : Type 0} (test : X → Bool) (xs : List X) → list_all test xs ≡ true → AllByRecursion (λ x. test x ≡ true) xs
AllByRecursion-from_list_all test [] h = tt
AllByRecursion-from_list_all test (x ∷ xs) h = let p = and_parts (test x) (list_all test xs) h in (p.0, AllByRecursion-from_list_all test xs p.1)

pub list_all-everywhere : {X : Type 0} (test : X → Bool) (xs : List X) → ((x : X) → test x ≡ true) → list_all test xs ≡ true
list_all-everywhere test [] h = refl
list_all-everywhere test (x ∷ xs) h = ap₂ (λ a b. a && b) (h x) (list_all-everywhere test xs h)
