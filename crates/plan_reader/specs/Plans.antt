-- The plan that a value denotes, or the first fault of its walk.
use Rattle.std.specs.Prelude.{ℕ, nat_le, List, [], ◌∷◌, ◌++◌, length, codes, if◌then◌else◌, Result, Ok}
use Rattle.serde_json.specs.Data.{Data}
use Rattle.serde_json.specs.Find.{get, as_object}
use Rattle.json_fields.specs.Walk.{◌>>=◌}
use Rattle.plan_model.specs.declared.step.Step.{Step}
use Rattle.plan_model.specs.Sizes.{max_steps}
use Rattle.expr_text.specs.declared.fault.Field.TheVariants as field
use Rattle.expr_text.specs.declared.fault.Limit.TheVariants as limit
use Rattle.expr_text.specs.declared.fault.PlanText.{PlanText}
use Rattle.expr_text.specs.Gives.{over}
use Rattle.expr_text.specs.Fields.{place, or_shape, list_in}
use Rattle.plan_reader.specs.Fields.{no_other, format_in}
use Rattle.plan_reader.specs.Steps.{step_in}

-- at most 64 steps
abbrev pub few : List Data → Result (List Data) PlanText
few ds = if nat_le (length ds) max_steps then Ok ds else over max_steps limit.Steps

-- the steps of these values, behind those that were read before, which each step's walk is handed
abbrev pub steps_after : List Step → List Data → Result (List Step) PlanText
steps_after read [] = Ok read
steps_after read (d ∷ ds) = do
  s ← step_in read d
  steps_after (read ++ s ∷ []) ds

-- the fields of a plan
abbrev pub plan_fields : List (List ℕ)
plan_fields = codes "format" ∷ codes "steps" ∷ []

-- the steps of the plan that a value denotes: the fields in their order, a field that a plan doesn't have, too
-- many steps, and then step by step
unfoldable pub plan_walk : Data → Result (List Step) PlanText
plan_walk d = do
  ms ← or_shape (place 0 field.Plan) (as_object d)
  format ← format_in d
  ds ← list_in (place 0 field.Steps) (get (codes "steps") d)
  known ← no_other 0 plan_fields ms
  members ← few ds
  steps_after [] members
