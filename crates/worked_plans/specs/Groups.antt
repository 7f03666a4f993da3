-- The rows of a source counted by parity.
use Rattle.std.specs.Prelude.{List, [], ◌∷◌, pos}
use Rattle.plan_model.specs.declared.step.Reducer.{Reducer}
use Rattle.plan_model.specs.declared.step.Step.{Step}
use Rattle.plan_model.specs.Evaluation.{eval}
use Rattle.worked_plans.specs.Sources.{A_with_a_quarter, B, a, both, parity, types}
use Rattle.worked_plans.specs.Weights.{HasWeights}

abbrev pub count_by_parity : List Step
count_by_parity = a ∷ Step.Group 0 (parity ∷ []) Reducer.Count ∷ []

-- the odd rows have the levels 1 and 3/4
abbrev pub GroupWeights : Type 0
GroupWeights = HasWeights (eval count_by_parity types both) ((0 ∷ 1 ∷ [], pos 1, 1) ∷ (1 ∷ 1 ∷ [], pos 1, 8) ∷ (1 ∷ 2 ∷ [], pos 3, 8) ∷ [])

-- with a quarter more at the row 1, both odd rows weigh 1
abbrev pub GroupWeightsAfter : Type 0
GroupWeightsAfter = HasWeights (eval count_by_parity types (A_with_a_quarter ∷ B ∷ [])) ((0 ∷ 1 ∷ [], pos 1, 1) ∷ (1 ∷ 1 ∷ [], pos 0, 1) ∷ (1 ∷ 2 ∷ [], pos 1, 2) ∷ [])
