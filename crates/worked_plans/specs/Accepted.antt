-- Which plans are accepted, and which families fit.
use Rattle.std.specs.Prelude.{◌≡◌, ℕ, suc, zero, ◌+◌, ◌^◌, ◌-◌, List, [], ◌∷◌, Some, None, codes, false, true}
use Rattle.record_text.specs.declared.kinds.Kind.TheVariants as kind
use Rattle.datasets.specs.Dataset.{dataset_of}
use Rattle.plan_model.specs.Acceptance.{Accepts, plan_fault_of}
use Rattle.plan_model.specs.Evaluation.{Family}
use Rattle.plan_model.specs.Fits.{misfit}
use Rattle.plan_model.specs.Types.{columns, columns_at}
use Rattle.plan_model.specs.Uses.{uses}
use Rattle.plan_model.specs.declared.expr.Expr.TheVariants.{Col}
use Rattle.plan_model.specs.declared.plan.What.{What}
use Rattle.plan_model.specs.declared.source_types.SourceType.{SourceType}
use Rattle.plan_model.specs.declared.step.Reducer.{Reducer}
use Rattle.plan_model.specs.declared.step.SetKind.{SetKind}
use Rattle.plan_model.specs.declared.step.Step.{Step}
use Rattle.worked_plans.specs.Joins.{join_by_parity}
use Rattle.worked_plans.specs.Sources.{a, b, over, parity, types}
use Rattle.worked_plans.specs.Weights.{ints}

-- the plan has this fault at this step
abbrev pub HasFault : List Step → List SourceType → ℕ → What → Type 0
HasFault p ts step what = plan_fault_of p ts ≡ Some (record { step = step; what = what })

-- ---- a join

abbrev pub JoinIsAccepted : Type 0
JoinIsAccepted = Accepts join_by_parity types

abbrev pub JoinColumns : Type 0
JoinColumns = columns_at (columns join_by_parity types) 2 ≡ kind.Int ∷ kind.Int ∷ []

-- ---- a count after a set operator

abbrev pub set_then_count : SetKind → List Step
set_then_count kind = a ∷ b ∷ Step.Set kind 0 1 ∷ Step.Group 2 (parity ∷ []) Reducer.Count ∷ []

-- b may be negative
abbrev pub signed_types : List SourceType
signed_types = record { name = codes "a"; kinds = kind.Int ∷ []; signed = false } ∷ record { name = codes "b"; kinds = kind.Int ∷ []; signed = true } ∷ []

-- an except may be negative
abbrev pub ExceptIsNotCounted : Type 0
ExceptIsNotCounted = HasFault (set_then_count SetKind.Except) types 3 What.Negative

-- a union with an input that is not negative may not
abbrev pub UnionIsCounted : Type 0
UnionIsCounted = Accepts (set_then_count SetKind.Union) types × Accepts (set_then_count SetKind.Union) signed_types

-- ---- doublings

-- the steps after the step i, n of them, each the concat of the one before with itself
abbrev pub doublings : ℕ → ℕ → List Step
doublings i zero = []
doublings i (suc n) = Step.Set SetKind.Concat i i ∷ doublings (i + 1) n

-- 2 ^ 19 uses are accepted, 2 ^ 20 are not
abbrev pub UsesDouble : Type 0
UsesDouble = (uses (a ∷ doublings 0 19) types 0 ≡ 524288) × Accepts (a ∷ doublings 0 19) types × HasFault (a ∷ doublings 0 20) types 20 What.UsesOver

-- ---- faults of a select

abbrev pub SelectPastWidth : Type 0
SelectPastWidth = HasFault (a ∷ Step.Select 0 (Col 5 ∷ []) ∷ []) types 1 What.Column

-- ---- a concat of a source with itself

abbrev pub doubled : List Step
doubled = a ∷ doublings 0 1

-- the row 1 with this weight in the source a, and nothing in b
abbrev pub one_row : ℕ → Family
one_row w = dataset_of ((ints (1 ∷ []), over w 1) ∷ []) ∷ dataset_of [] ∷ []

-- 1 fits, and the greatest weight in range doesn't
abbrev pub ConcatFits : Type 0
ConcatFits = (misfit doubled types (one_row 1) ≡ None) × (misfit doubled types (one_row (2 ^ 62 - 1)) ≡ Some 1)
