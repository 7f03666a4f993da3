-- Laws of plans, each the contract of a function.
use Rattle.std.specs.Prelude.{◌≡◌, ◌↔◌, ◌<◌, ◌≤◌, ℕ, IsTrue, false, List, length, slice_get, Some, None, option_map}
use Rattle.record_text.specs.KindLists.{kind_of, kinds_of}
use Rattle.datasets.specs.Dataset.{Dataset}
use Rattle.datasets.specs.Entries.{Row}
use Rattle.operators.specs.Laws.{NoneNegative}
use Rattle.plan_model.specs.declared.source_types.SourceType.{SourceType}
use Rattle.plan_model.specs.declared.step.Step.{Step}
use Rattle.plan_model.specs.Acceptance.{Accepts, max_uses}
use Rattle.plan_model.specs.Evaluation.{Family, eval_at, evals, left_dataset, operator_of, right_dataset}
use Rattle.plan_model.specs.Fits.{Fits, misfit}
use Rattle.plan_model.specs.Limits.{is_plan}
use Rattle.plan_model.specs.Types.{HasColumns, Keeps, columns, columns_at, may_be_negative}
use Rattle.plan_model.specs.Uses.{uses, uses_at}
use Rattle.plan_model.specs.Values.{Term, kind_in, value_if}

-- an expression has a value on a row just where it has a kind over the row's kinds, and the value has that kind
abbrev pub ValuesHaveKinds : Type 0
ValuesHaveKinds = (t : Term) (x : Row) → option_map kind_of (value_if t x) ≡ kind_in (kinds_of x) t

-- the rows of the step i have its columns, and no weight is negative where none may be
pub record IsTypedStep (p : List Step) (types : List SourceType) (F : Family) (i : ℕ) : Type 0 where
  pub rows : HasColumns (columns_at (columns p types) i) (eval_at p types F i)
  pub sign : may_be_negative p types i ≡ false → NoneNegative (eval_at p types F i)

-- in an accepted plan, on a family that keeps the types, every step is typed
abbrev pub AcceptedIsTyped : Type 0
AcceptedIsTyped = (p : List Step) (types : List SourceType) (F : Family) (i : ℕ) → Accepts p types → Keeps types F → IsTypedStep p types F i

-- the dataset of a step of a plan is what its operator makes of the datasets of the steps that it names, or of its
-- source's
abbrev pub StepsAreOperators : Type 0
StepsAreOperators = (p : List Step) (types : List SourceType) (F : Family) (i : ℕ) (s : Step) → IsTrue (is_plan p) → slice_get p i ≡ Some s →
    let As : List Dataset = evals p types F in
    eval_at p types F i ≡ operator_of s (left_dataset types F As s) (right_dataset As s)

-- the step i doesn't fit, and each step before it does
pub record IsFirstMisfit (p : List Step) (types : List SourceType) (F : Family) (i : ℕ) : Type 0 where
  pub within : i < length p
  pub misfits : ¬ Fits p types F i
  pub before : (j : ℕ) → j < i → Fits p types F j

abbrev pub MisfitIsFirst : Type 0
MisfitIsFirst = (p : List Step) (types : List SourceType) (F : Family) (i : ℕ) → misfit p types F ≡ Some i → IsFirstMisfit p types F i

-- there is no misfit exactly where every step fits
abbrev pub NoMisfit : Type 0
NoMisfit = (p : List Step) (types : List SourceType) (F : Family) → (misfit p types F ≡ None) ↔ ((i : ℕ) → Fits p types F i)

-- an accepted plan uses no source over 1,000,000 times, nor does any of its steps
abbrev pub AcceptedUsesAreFew : Type 0
AcceptedUsesAreFew = (p : List Step) (types : List SourceType) (source : ℕ) → Accepts p types → source < length types →
    (uses p types source ≤ max_uses) × ((i : ℕ) → uses_at p types i source ≤ max_uses)
