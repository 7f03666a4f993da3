-- Changes of a plan's sources, and of its steps.
use Rattle.std.specs.Prelude.{ℕ, ◌<◌, List, [], length, get_or, Option, Some, None}
use Rattle.datasets.specs.Dataset.{Dataset}
use Rattle.weighted_set.specs.declared.weighted.Change.{Change}
use Rattle.weighted_set.specs.Changes.{IsChangeList}
use Rattle.dataflow.specs.declared.wire.Wire.{Wire}
use Rattle.dataflow.specs.declared.wire.Wire.TheVariants.{Source, Of}
use Rattle.dataflow.specs.Evaluation.{Family, dataset_at}
use Rattle.dataflow.specs.Wiring.{wire_at}

-- each list changes its source's dataset in F to that in G
abbrev pub AreFamilyChanges : List (List Change) → Family → Family → Type 0
AreFamilyChanges sources F G = (s : ℕ) → s < length sources → IsChangeList (get_or sources s []) (dataset_at F s) (dataset_at G s)

-- the changes of a step: a source's own, or those in the step's list
abbrev pub step_changes : Wire → List (List Change) → List (List Change) → ℕ → List Change
step_changes (Source s) sources lists i = get_or sources s []
step_changes (Of left right) sources lists i = get_or lists i []

-- the changes of the step i
abbrev pub changes_at : List Wire → List (List Change) → List (List Change) → ℕ → List Change
changes_at wires sources lists i = step_changes (wire_at wires i) sources lists i

-- the changes of a right input, none where it is absent
abbrev pub right_changes : List Wire → List (List Change) → List (List Change) → Option ℕ → List Change
right_changes wires sources lists None = []
right_changes wires sources lists (Some right) = changes_at wires sources lists right

-- each step's changes lead from its dataset in As to that in Bs
abbrev pub AreStepChanges : List Wire → List (List Change) → List (List Change) → List Dataset → List Dataset → Type 0
AreStepChanges wires sources lists As Bs = (i : ℕ) → i < length wires → IsChangeList (changes_at wires sources lists i) (dataset_at As i) (dataset_at Bs i)
