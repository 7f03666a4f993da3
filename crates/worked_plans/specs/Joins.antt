-- A join of two sources by parity.
use Rattle.std.specs.Prelude.{◌≡◌, List, [], ◌∷◌, pos}
use Rattle.plan_model.specs.declared.step.Step.{Step}
use Rattle.plan_model.specs.Evaluation.{eval}
use Rattle.plan_model.specs.Uses.{uses}
use Rattle.worked_plans.specs.Sources.{a, b, both, parity, types}
use Rattle.worked_plans.specs.Weights.{HasWeights}

abbrev pub join_by_parity : List Step
join_by_parity = a ∷ b ∷ Step.Join 0 1 (parity ∷ []) (parity ∷ []) ∷ []

-- the odd rows have the norms 7/4 and 3, the even ones 2 and 2
abbrev pub JoinWeights : Type 0
JoinWeights = HasWeights (eval join_by_parity types both)
    ((1 ∷ 1 ∷ [], pos 9, 19) ∷ (3 ∷ 1 ∷ [], pos 12, 19) ∷ (2 ∷ 4 ∷ [], pos 1, 1) ∷ (1 ∷ 4 ∷ [], pos 0, 1) ∷ [])

-- each source is used once
abbrev pub JoinUses : Type 0
JoinUses = (uses join_by_parity types 0 ≡ 1) × (uses join_by_parity types 1 ≡ 1)
