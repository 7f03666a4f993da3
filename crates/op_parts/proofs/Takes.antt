-- The rows of inputs that an operator of one input takes.
use Rattle.std.specs.Prelude.{◌≡◌, ◌≢◌, Bool, true, ◌&&◌, List, [], ◌∷◌, refl}
use Rattle.std.specs.List.{AllByRecursion, list_all}
use Rattle.std.proofs.Common.{ap₂}
use Rattle.std.proofs.lemmas.Bool.{and_parts}
use Rattle.ratios.specs.Ratio.{zero_ratio}
use Rattle.record_text.specs.declared.kinds.Kind.{Kind}
use Rattle.record_text.specs.KindLists.{kinds_eq, kinds_of}
use Rattle.record_text.proofs.Equality.{kinds_decided}
use Rattle.datasets.specs.Dataset.{Dataset, at, rows}
use Rattle.datasets.specs.Entries.{Row}
use Rattle.plan_model.specs.Types.{HasColumns}
use Rattle.weighted_set.specs.declared.part_op.Side.TheVariants.{Left, Right}
use Rattle.op_parts.specs.Takes.{LeftHasColumns, both_have_columns, has_columns}
use Rattle.op_parts.proofs.Members.{at-weighed}

-- the rows of an input with these columns are taken
pub takes_row : (cols : List Kind) (A B : Dataset) (x : Row) → HasColumns cols A → (at A x ≢ zero_ratio → LeftHasColumns cols Left x) × (at B x ≢ zero_ratio → LeftHasColumns cols Right x)
takes_row cols A B x h = (at-weighed (LeftHasColumns cols Left) A x h, λ _. tt)

-- what a test tells of each row, it tells of all
all_told : (p : Row → Bool) (P : Row → Type 0) → ((x : Row) → p x ≡ true → P x) → (xs : List Row) → list_all p xs ≡ true → AllByRecursion P xs
all_told p P tells [] h = tt
all_told p P tells (x ∷ xs) h = let parts = and_parts (p x) (list_all p xs) h in (tells x parts.0, all_told p P tells xs parts.1)

all_tested : (p : Row → Bool) (P : Row → Type 0) → ((x : Row) → P x → p x ≡ true) → (xs : List Row) → AllByRecursion P xs → list_all p xs ≡ true
all_tested p P tests [] h = refl
all_tested p P tests (x ∷ xs) h = ap₂ (λ a b. a && b) (tests x h.0) (all_tested p P tests xs h.1)

-- the test has_columns is true just where the dataset has the columns
pub columns_told : (cols : List Kind) (A : Dataset) → has_columns cols A ≡ true → HasColumns cols A
columns_told cols A = all_told (λ x. kinds_eq (kinds_of x) cols) (λ x. kinds_of x ≡ cols) (λ x. (kinds_decided (kinds_of x) cols).0) (rows A)

pub columns_tested : (cols : List Kind) (A : Dataset) → HasColumns cols A → has_columns cols A ≡ true
columns_tested cols A = all_tested (λ x. kinds_eq (kinds_of x) cols) (λ x. kinds_of x ≡ cols) (λ x. (kinds_decided (kinds_of x) cols).1) (rows A)

-- so for two datasets
pub both_told : (cols : List Kind) (A B : Dataset) → both_have_columns cols A B ≡ true → HasColumns cols A × HasColumns cols B
both_told cols A B h = let parts = and_parts (has_columns cols A) (has_columns cols B) h in (columns_told cols A parts.0, columns_told cols B parts.1)

pub both_tested : (cols : List Kind) (A B : Dataset) → HasColumns cols A → HasColumns cols B → both_have_columns cols A B ≡ true
both_tested cols A B a b = ap₂ (λ p q. p && q) (columns_tested cols A a) (columns_tested cols B b)
