-- How often a plan uses a source.
use Rattle.std.specs.Prelude.{ℕ, nat_eq, if◌then◌else◌, List, Option, Some, None, Bool, false, length, map, slice_index_or, sum}
use Rattle.std.specs.List.{range_with_len}
use Rattle.plan_model.specs.declared.step.Step.{Step}
use Rattle.plan_model.specs.declared.source_types.SourceType.{SourceType}
use Rattle.plan_model.specs.Inputs.{of_inputs}
use Rattle.plan_model.specs.Sources.{place_of}
use Rattle.plan_model.specs.Evaluation.{last_or, step_by_step}

abbrev pub count_at : List ℕ → ℕ → ℕ
count_at ns i = slice_index_or ns i 0

-- the place is there, and is s
abbrev pub is_place : ℕ → Option ℕ → Bool
is_place s None = false
is_place s (Some i) = nat_eq i s

-- 1 at a step of the source s, 0 at a step of another source, and else as often as the inputs together, where
-- an input that is named twice counts twice
abbrev pub uses_step : List SourceType → ℕ → Step → List ℕ → ℕ
uses_step types s (Step.Source name) ns = if is_place s (place_of name types) then 1 else 0
uses_step types s step ns = sum (of_inputs 0 ns step)

-- how often each step uses the source s
abbrev pub uses_of_steps : List Step → List SourceType → ℕ → List ℕ
uses_of_steps p types s = step_by_step (uses_step types s) p

-- how often a step after these uses each source, in the order of the sources
abbrev pub counts_of_step : List SourceType → List Step → Step → List ℕ
counts_of_step types before step = map (λ s. uses_step types s step (uses_of_steps before types s)) (range_with_len 0 (length types))

-- how often the step i uses the source s
abbrev pub uses_at : List Step → List SourceType → ℕ → ℕ → ℕ
uses_at p types i s = count_at (uses_of_steps p types s) i

-- how often a plan uses the source s: as often as its last step
abbrev pub uses : List Step → List SourceType → ℕ → ℕ
uses p types s = last_or 0 (uses_of_steps p types s)
