-- A source cut into four pieces of 1/2.
use Rattle.std.specs.Prelude.{List, [], ◌∷◌, pos}
use Rattle.plan_model.specs.declared.step.Step.{Step}
use Rattle.plan_model.specs.Evaluation.{eval}
use Rattle.worked_plans.specs.Sources.{a, both, over, types}
use Rattle.worked_plans.specs.Weights.{HasWeights}

abbrev pub shave_to_halves : List Step
shave_to_halves = a ∷ Step.Shave 0 (record { weight = over 1 2; times = 4 } ∷ []) ∷ []

abbrev pub ShaveWeights : Type 0
ShaveWeights = HasWeights (eval shave_to_halves types both)
    ((1 ∷ 0 ∷ [], pos 1, 2) ∷ (1 ∷ 1 ∷ [], pos 1, 4) ∷ (1 ∷ 2 ∷ [], pos 0, 1) ∷ (2 ∷ 3 ∷ [], pos 1, 2) ∷ (3 ∷ 1 ∷ [], pos 1, 2) ∷ (3 ∷ 2 ∷ [], pos 0, 1) ∷ [])
