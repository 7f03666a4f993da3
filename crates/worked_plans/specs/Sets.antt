-- The set operators on two sources.
use Rattle.std.specs.Prelude.{ℕ, ℤ, List, [], ◌∷◌, pos, negsuc}
use Rattle.plan_model.specs.declared.step.SetKind.{SetKind}
use Rattle.plan_model.specs.declared.step.Step.{Step}
use Rattle.plan_model.specs.Evaluation.{eval}
use Rattle.worked_plans.specs.Sources.{a, b, both, types}
use Rattle.worked_plans.specs.Weights.{HasWeights}

abbrev pub set_plan : SetKind → List Step
set_plan kind = a ∷ b ∷ Step.Set kind 0 1 ∷ []

-- the weight of the row 1 in a set plan
abbrev pub AtOne : SetKind → ℤ → ℕ → Type 0
AtOne kind n d = HasWeights (eval (set_plan kind) types both) ((1 ∷ [], n, d) ∷ [])

-- 3/4 and 3: the greater, the less, the sum and the difference, which is -9/4
abbrev pub SetWeights : Type 0
SetWeights = AtOne SetKind.Union (pos 3) 1 × AtOne SetKind.Intersect (pos 3) 4 × AtOne SetKind.Concat (pos 15) 4 × AtOne SetKind.Except (negsuc 8) 4
