-- The work of the steps of a plan, where its sources change.
use Rattle.std.specs.Prelude.{ℕ, ◌+◌, zero, suc, List, length, Option, Some, None}
use Rattle.datasets.specs.Dataset.{Dataset, differing}
use Rattle.weighted_set.specs.Standing.{Meaning}
use Rattle.dataflow.specs.declared.wire.Wire.{Wire}
use Rattle.dataflow.specs.declared.wire.Wire.TheVariants.{Source, Of}
use Rattle.dataflow.specs.Evaluation.{Family, dataset_at, evals, last_output, meaning_at, right_dataset}
use Rattle.dataflow.specs.Wiring.{wire_at}

-- the work of a step, where the steps' datasets As become Bs; a source has none
abbrev pub step_work : (Dataset → Dataset → Dataset → Dataset → Option ℕ) → Wire → List Dataset → List Dataset → Option ℕ
step_work work (Source s) As Bs = Some 0
step_work work (Of left right) As Bs = work (dataset_at As left) (right_dataset As right) (dataset_at Bs left) (right_dataset Bs right)

-- the work of the step i, where the sources F become G
abbrev pub work_at : List Meaning → List Wire → Family → Family → ℕ → Option ℕ
work_at ms wires F G i = step_work (meaning_at ms i).work (wire_at wires i) (evals ms wires F) (evals ms wires G)

-- two works together, bounded where both are
abbrev pub both_works : Option ℕ → Option ℕ → Option ℕ
both_works None v = None
both_works (Some m) None = None
both_works (Some m) (Some n) = Some (m + n)

-- the work of the steps before i
abbrev pub works_before : List Meaning → List Wire → Family → Family → ℕ → Option ℕ
works_before ms wires F G zero = Some 0
works_before ms wires F G (suc i) = both_works (works_before ms wires F G i) (work_at ms wires F G i)

-- the work of all steps
abbrev pub all_works : List Meaning → List Wire → Family → Family → Option ℕ
all_works ms wires F G = works_before ms wires F G (length wires)

-- how many rows of the last step's dataset change
abbrev pub changed_outputs : List Meaning → List Wire → Family → Family → ℕ
changed_outputs ms wires F G = length (differing (last_output ms wires F) (last_output ms wires G))

-- the work of all steps, and one for each changed row of the output
abbrev pub wired_work : List Meaning → List Wire → Family → Family → Option ℕ
wired_work ms wires F G = both_works (all_works ms wires F G) (Some (changed_outputs ms wires F G))
