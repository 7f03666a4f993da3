-- The work of a plan, where its sources change.
use Rattle.std.specs.Prelude.{ℕ, ◌+◌, ◌*◌, List, length}
use Rattle.std.specs.List.{sum_by}
use Rattle.datasets.specs.Dataset.{Dataset, differing}
use Rattle.engines.specs.Work.{part_work}
use Rattle.plan_model.specs.Evaluation.{Family, eval_step, evals, left_dataset, right_dataset}
use Rattle.plan_model.specs.Keys.{left_keys, right_keys}
use Rattle.plan_model.specs.declared.source_types.SourceType.{SourceType}
use Rattle.plan_model.specs.declared.step.Step.{Step}

-- how many rows of a step change, where the sources F become G, and the datasets As of the steps Bs
abbrev pub changed_count : List SourceType → Family → Family → List Dataset → List Dataset → Step → ℕ
changed_count types F G As Bs s = length (differing (eval_step types F s As) (eval_step types G s Bs))

-- the work at the keys that a step's inputs touch; a source has no keys
abbrev pub work_at_keys : List SourceType → Family → Family → List Dataset → List Dataset → Step → ℕ
work_at_keys types F G As Bs s =
    part_work (left_keys s) (right_keys s) (left_dataset types F As s) (right_dataset As s) (left_dataset types G Bs s) (right_dataset Bs s)

-- the work of a step: one for each row that changes, and that at its keys
abbrev pub work_of_step : List SourceType → Family → Family → List Dataset → List Dataset → Step → ℕ
work_of_step types F G As Bs s = changed_count types F G As Bs s + work_at_keys types F G As Bs s

-- the work of a plan whose sources F become G: that of all its steps
abbrev pub plan_work : List Step → List SourceType → Family → Family → ℕ
plan_work plan types F G = sum_by (work_of_step types F G (evals plan types F) (evals plan types G)) plan

-- the most ticks that such a change takes
abbrev pub most_ticks : List Step → List SourceType → Family → Family → ℕ
most_ticks plan types F G = 8 * plan_work plan types F G + 8
