-- The plan of a request.
use Rattle.std.specs.Prelude.{ℕ, List, codes, Option, Some, None, Result, Ok, Err}
use Rattle.serde_json.specs.Data.{Data}
use Rattle.serde_json.specs.Find.{get}
use Rattle.plan_model.specs.declared.step.Step.{Step}
use Rattle.plan_reader.specs.Plans.{plan_walk}
use Rattle.expr_text.specs.declared.fault.Field.{Field}
use Rattle.expr_text.specs.declared.fault.Field.TheVariants as part
use Rattle.expr_text.specs.declared.fault.PlanText.{PlanText}
use Rattle.expr_text.specs.declared.fault.PlanText.TheVariants as walk
use Rattle.messages.specs.declared.refusal.Refusal.{Refusal}
use Rattle.messages.specs.declared.refusal.Refusal.TheVariants as refusal
use Rattle.request_fields.specs.Fields.{shape, shape_fault}

-- the name of a field of a plan or a step; a field that they don't have is `other`
abbrev pub field_word : Field → List ℕ
field_word part.Plan = codes "plan"
field_word part.Format = codes "format"
field_word part.Steps = codes "steps"
field_word part.Step = codes "step"
field_word part.Do = codes "do"
field_word part.Name = codes "name"
field_word part.Of = codes "of"
field_word part.If = codes "if"
field_word part.Row = codes "row"
field_word part.Over = codes "over"
field_word part.Items = codes "items"
field_word part.Runs = codes "runs"
field_word part.Left = codes "left"
field_word part.Right = codes "right"
field_word part.LeftKey = codes "left_key"
field_word part.RightKey = codes "right_key"
field_word part.Key = codes "key"
field_word part.Reduce = codes "reduce"
field_word part.Other = codes "other"

-- a fault of a plan's walk, told with its step; no walk answers `Memory`
abbrev pub plan_fault : PlanText → Refusal
plan_fault (walk.Shape step f) = refusal.Shape (field_word f) (Some step)
plan_fault (walk.Over step limit) = refusal.Over step limit
plan_fault walk.Memory = shape_fault (codes "plan")

abbrev plan_or_fault : Result (List Step) PlanText → Result (List Step) Refusal
plan_or_fault (Ok steps) = Ok steps
plan_or_fault (Err f) = Err (plan_fault f)

-- the plan that a value denotes, or the first fault of its walk
abbrev plan_of : Option Data → Result (List Step) Refusal
plan_of None = shape (codes "plan")
plan_of (Some d) = plan_or_fault (plan_walk d)

-- the plan of a request; where the field is missing, no step is told
unfoldable pub plan_field : Data → Result (List Step) Refusal
plan_field d = plan_of (get (codes "plan") d)
