-- The inputs of steps.
use Rattle.std.specs.Prelude.{ℕ, List, [], ◌∷◌, map, slice_index_or}
use Rattle.plan_model.specs.declared.step.Step.{Step}

-- the earlier steps that a step works on, the left one first; a step that is named twice stands there twice
abbrev pub inputs : Step → List ℕ
inputs (Step.Source name) = []
inputs (Step.Filter of test) = of ∷ []
inputs (Step.Select of row) = of ∷ []
inputs (Step.Many of over items) = of ∷ []
inputs (Step.Shave of runs) = of ∷ []
inputs (Step.Set kind left right) = left ∷ right ∷ []
inputs (Step.Join left right left_key right_key) = left ∷ right ∷ []
inputs (Step.Group of key reduce) = of ∷ []

-- what each input has, of what all steps have; `none` stands for a step that isn't there
abbrev pub of_inputs : {X : Type 0} → X → List X → Step → List X
of_inputs none xs s = map (λ i. slice_index_or xs i none) (inputs s)

-- what the left input has
abbrev pub of_left : {X : Type 0} → X → List X → Step → X
of_left none xs s = slice_index_or (of_inputs none xs s) 0 none

-- what the right input has
abbrev pub of_right : {X : Type 0} → X → List X → Step → X
of_right none xs s = slice_index_or (of_inputs none xs s) 1 none
