-- Which families fit a plan: all values on the way are in range.
use Rattle.std.specs.Prelude.{ℕ, Bool, ◌&&◌, true, not, IsTrue, List, slice_get, Option, Some, None}
use Rattle.std.specs.List.{position}
use Rattle.datasets.specs.Dataset.{Dataset}
use Rattle.operators.specs.InRange.{group_in_range, join_in_range, many_in_range, select_in_range, shave_in_range, weights_in_range}
use Rattle.plan_model.specs.declared.step.Step.{Step}
use Rattle.plan_model.specs.declared.source_types.SourceType.{SourceType}
use Rattle.plan_model.specs.Evaluation.{Family, evals, giving, left_dataset, operator_of, pieces, reduced_to, right_dataset, row_of}

-- the values that a step's operator passes through on its left and its right input are in range
abbrev pub inside_in_range : Step → Dataset → Dataset → Bool
inside_in_range (Step.Source name) A B = true
inside_in_range (Step.Filter of test) A B = true
inside_in_range (Step.Select of row) A B = select_in_range (row_of row) A
inside_in_range (Step.Many of over items) A B = many_in_range over (giving items) A
inside_in_range (Step.Shave of runs) A B = shave_in_range (pieces runs) A
inside_in_range (Step.Set kind left right) A B = true
inside_in_range (Step.Join left right left_key right_key) A B = join_in_range (row_of left_key) (row_of right_key) A B
inside_in_range (Step.Group of key reduce) A B = group_in_range (row_of key) (reduced_to reduce) A

-- these values and the output weights are in range
abbrev pub operator_fits : Step → Dataset → Dataset → Bool
operator_fits s A B = inside_in_range s A B && weights_in_range (operator_of s A B)

-- a step fits where its operator does on its inputs; As are the datasets of the steps
abbrev pub step_fits : List SourceType → Family → List Dataset → Step → Bool
step_fits types F As s = operator_fits s (left_dataset types F As s) (right_dataset As s)

-- the step fits, where there is one
abbrev pub fits_if : List SourceType → Family → List Dataset → Option Step → Bool
fits_if types F As None = true
fits_if types F As (Some s) = step_fits types F As s

-- the family fits the plan at the step i
abbrev pub Fits : List Step → List SourceType → Family → ℕ → Type 0
Fits p types F i = IsTrue (fits_if types F (evals p types F) (slice_get p i))

-- the least step that doesn't fit, if there is one
abbrev pub misfit : List Step → List SourceType → Family → Option ℕ
misfit p types F = position (λ s. not (step_fits types F (evals p types F) s)) p
