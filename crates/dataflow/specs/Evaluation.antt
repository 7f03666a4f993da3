-- The datasets of a plan's steps, from those of its sources.
use Rattle.std.specs.Prelude.{ℕ, ◌-◌, Bool, true, false, List, [], ◌∷◌, ◌++◌, length, get_or, Option, Some, None}
use Rattle.datasets.specs.Dataset.{Dataset, empty}
pub use Rattle.datasets.specs.Families.{Family, dataset_at}
use Rattle.weighted_set.specs.Standing.{Meaning}
use Rattle.dataflow.specs.declared.wire.Wire.{Wire}
use Rattle.dataflow.specs.declared.wire.Wire.TheVariants.{Source, Of}
use Rattle.dataflow.specs.Wiring.{wire_at}

-- what is at a source's step: it takes no inputs
abbrev pub no_operator : Meaning
no_operator = record { takes = λ A B. false; fits = λ A B. true; output = λ A B. A; work = λ A B C D. None }

-- the dataset of a right input, empty where it is absent
abbrev pub right_dataset : List Dataset → Option ℕ → Dataset
right_dataset As None = empty
right_dataset As (Some right) = dataset_at As right

-- the dataset of a step, from the sources and from the datasets of the steps before it
abbrev pub step_output : (Dataset → Dataset → Dataset) → Wire → Family → List Dataset → Dataset
step_output output (Source s) F As = dataset_at F s
step_output output (Of left right) F As = output (dataset_at As left) (right_dataset As right)

-- the datasets As of the first steps, and after them those of the next ones
abbrev pub evals_after : List Dataset → List Meaning → List Wire → Family → List Dataset
evals_after As [] wires F = As
evals_after As (m ∷ ms) [] F = As
evals_after As (m ∷ ms) (wire ∷ wires) F = evals_after (As ++ step_output m.output wire F As ∷ []) ms wires F

-- the datasets of all steps
abbrev pub evals : List Meaning → List Wire → Family → List Dataset
evals ms wires F = evals_after [] ms wires F

-- the dataset of the last step
abbrev pub last_output : List Meaning → List Wire → Family → Dataset
last_output ms wires F = dataset_at (evals ms wires F) (length wires - 1)

-- what the operator of the step i means
abbrev pub meaning_at : List Meaning → ℕ → Meaning
meaning_at ms i = get_or ms i no_operator

-- whether the inputs of a step, if it has inputs, pass a test
abbrev pub step_passes : (Dataset → Dataset → Bool) → Wire → List Dataset → Bool
step_passes test (Source s) As = true
step_passes test (Of left right) As = test (dataset_at As left) (right_dataset As right)

-- whether the step i fits its inputs
abbrev pub fits_at : List Meaning → List Wire → Family → ℕ → Bool
fits_at ms wires F i = step_passes (meaning_at ms i).fits (wire_at wires i) (evals ms wires F)

-- whether the step i takes its inputs
abbrev pub takes_at : List Meaning → List Wire → Family → ℕ → Bool
takes_at ms wires F i = step_passes (meaning_at ms i).takes (wire_at wires i) (evals ms wires F)
