-- What a line asks for, or the first fault of one walk over it.
use Rattle.std.specs.Prelude.{ℕ, ◌≤◌, ⊤, IsTrue, List, length, nat_lt, codes, if◌then◌else◌, Option, None, Result, Ok, Err}
use Rattle.std.specs.Str.{is_utf8}
use Rattle.serde_json.specs.Data.{Data, Members}
use Rattle.serde_json.specs.Find.{as_object}
use Rattle.serde_json.specs.Read.{read}
use Rattle.io_edge.specs.Path.{IsPath}
use Rattle.json_fields.specs.Walk.{◌>>=◌, needed}
use Rattle.plan_model.specs.Limits.{is_plan}
use Rattle.messages.specs.Words.{thing_word}
use Rattle.messages.specs.declared.thing.Thing.{Thing}
use Rattle.messages.specs.declared.thing.Thing.TheVariants as thing
use Rattle.messages.specs.declared.refusal.Refusal.{Refusal}
use Rattle.messages.specs.declared.refusal.Refusal.TheVariants as refusal
use Rattle.messages.specs.declared.target.Target.{Target}
use Rattle.messages.specs.declared.target.Target.TheVariants as target
use Rattle.messages.specs.declared.request.Request.{Request}
use Rattle.messages.specs.declared.request.Request.TheVariants as request
use Rattle.request_fields.specs.Fields.{bool_in, flag_in, kinds_in, max_rows, named, no_other, path_of, rows_in, shape_fault, text_in, thing_in, weights_in, whole_in}
use Rattle.request_text.specs.Ops.{op_fields, op_of}
use Rattle.request_text.specs.Plans.{plan_field}
use Rattle.request_text.specs.declared.op.Op.{Op}
use Rattle.request_text.specs.declared.op.Op.TheVariants as op

-- Each operation has one definition: its fields in their order, then a field that it doesn't have, and last its names.

-- the sum of weights
unfoldable pub sum_in : Data → Members → Result Request Refusal
sum_in d ms = do
  weights ← weights_in d
  known ← no_other (op_fields op.Sum) ms
  Ok (request.Sum weights)

-- the greatest budget
abbrev pub max_budget : ℕ
max_budget = 1000000000000000

-- a new source
unfoldable pub source_in : Data → Members → Result Request Refusal
source_in d ms = do
  text ← text_in (codes "name") d
  kinds ← kinds_in d
  signed ← bool_in (codes "signed") d
  budget ← whole_in (codes "budget") 0 max_budget d
  known ← no_other (op_fields op.Source) ms
  name ← named (codes "name") text
  Ok (request.Source name kinds signed budget)

-- weights to be added to a source
unfoldable pub update_in : Data → Members → Result Request Refusal
update_in d ms = do
  text ← text_in (codes "source") d
  csv ← text_in (codes "csv") d
  header ← flag_in (codes "header") d
  known ← no_other (op_fields op.Update) ms
  source ← named (codes "source") text
  Ok (request.Update source csv header)

-- the same from the file at a path
unfoldable pub load_in : Data → Members → Result Request Refusal
load_in d ms = do
  text ← text_in (codes "source") d
  path ← text_in (codes "path") d
  header ← flag_in (codes "header") d
  known ← no_other (op_fields op.Load) ms
  source ← named (codes "source") text
  path ← path_of path
  Ok (request.Load source path header)

-- a new plan
unfoldable pub plan_in : Data → Members → Result Request Refusal
plan_in d ms = do
  text ← text_in (codes "name") d
  plan ← plan_field d
  known ← no_other (op_fields op.Plan) ms
  name ← named (codes "name") text
  Ok (request.Plan name plan)

-- a plan to be taken out
unfoldable pub drop_in : Data → Members → Result Request Refusal
drop_in d ms = do
  text ← text_in (codes "plan") d
  known ← no_other (op_fields op.Drop) ms
  plan ← named (codes "plan") text
  Ok (request.Drop plan)

-- the greatest epsilon of a measurement, in millionths
abbrev pub max_epsilon : ℕ
max_epsilon = 1000000000

-- rows to be measured in a plan's output
unfoldable pub measure_in : Data → Members → Result Request Refusal
measure_in d ms = do
  text ← text_in (codes "plan") d
  rows ← rows_in d
  epsilon ← whole_in (codes "epsilon") 1 max_epsilon d
  known ← no_other (op_fields op.Measure) ms
  plan ← named (codes "plan") text
  Ok (request.Measure plan rows epsilon)

-- what rows are looked up in, by its name
abbrev pub target_named : Thing → List ℕ → Target
target_named thing.Source name = target.Source name
target_named thing.Plan name = target.Plan name

-- rows to be looked up in a source or a plan; that just one of the two is there comes before all else
unfoldable pub exact_in : Data → Members → Result Request Refusal
exact_in d ms = do
  thing ← thing_in d
  text ← text_in (thing_word thing) d
  rows ← rows_in d
  known ← no_other (op_fields op.Exact) ms
  name ← named (thing_word thing) text
  Ok (request.Exact (target_named thing name) rows)

-- a source whose budget is to be told
unfoldable pub budget_in : Data → Members → Result Request Refusal
budget_in d ms = do
  text ← text_in (codes "source") d
  known ← no_other (op_fields op.Budget) ms
  source ← named (codes "source") text
  Ok (request.Budget source)

-- the request of this operation
abbrev pub request_in : Data → Members → Op → Result Request Refusal
request_in d ms op.Sum = sum_in d ms
request_in d ms op.Source = source_in d ms
request_in d ms op.Update = update_in d ms
request_in d ms op.Load = load_in d ms
request_in d ms op.Plan = plan_in d ms
request_in d ms op.Drop = drop_in d ms
request_in d ms op.Measure = measure_in d ms
request_in d ms op.Exact = exact_in d ms
request_in d ms op.Budget = budget_in d ms

-- an object with a known operation
unfoldable pub request_of : Data → Result Request Refusal
request_of d = do
  members ← needed (shape_fault (codes "request")) (as_object d)
  op ← needed (shape_fault (codes "op")) (op_of d)
  request_in d members op

-- the value of a text, which is UTF-8 and JSON
abbrev pub value_of : List ℕ → Option Data
value_of text = if is_utf8 text then read text else None

-- the request of a text, which has to be JSON
unfoldable pub request_in_json : List ℕ → Result Request Refusal
request_in_json line = needed refusal.Json (value_of line) >>= request_of

-- the most bytes of a line
abbrev pub max_line : ℕ
max_line = 1048576

-- the request of a line, which has to be no longer than a line may be
unfoldable pub request_on : List ℕ → Result Request Refusal
request_on line = if nat_lt max_line (length line) then Err refusal.Line else request_in_json line

-- what every request that is read keeps to
abbrev pub IsWithinLimits : Request → Type 0
IsWithinLimits (request.Sum weights) = ⊤
IsWithinLimits (request.Source name kinds signed budget) = budget ≤ max_budget
IsWithinLimits (request.Update source csv header) = ⊤
IsWithinLimits (request.Load source path header) = IsPath path
IsWithinLimits (request.Plan name plan) = IsTrue (is_plan plan)
IsWithinLimits (request.Drop plan) = ⊤
IsWithinLimits (request.Measure plan rows epsilon) =
    (1 ≤ length rows) × (length rows ≤ max_rows) × (1 ≤ epsilon) × (epsilon ≤ max_epsilon)
IsWithinLimits (request.Exact of rows) = (1 ≤ length rows) × (length rows ≤ max_rows)
IsWithinLimits (request.Budget source) = ⊤
