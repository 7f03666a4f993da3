-- No line is refused for a device's sake as it is read.
use Rattle.std.proofs.Common.{ℕ, List, [], ◌∷◌, Bool, true, false, Option, Some, None, Result, Ok, Err, cond, length, nat_lt, ◌+◌}
use Rattle.std.specs.Option.{option_map_or}
use Rattle.std.specs.Prelude.{codes, nat_le, ◌&&◌, option_and_then, ⊤, if◌then◌else◌}
use Rattle.std.specs.List.{list_all}
use Rattle.serde_json.specs.Data.{Data, Members}
use Rattle.serde_json.specs.Find.{as_bool, as_object, as_str, get}
use Rattle.io_edge.specs.Path.{is_path}
use Rattle.json_fields.specs.Fields.{first_unknown, is_text, list_of}
use Rattle.json_fields.specs.Walk.{◌>>=◌, each, needed}
use Rattle.frac_core.specs.Text.{weight_of}
use Rattle.frac_core.specs.declared.FracFault.{FracFault}
use Rattle.ratios.specs.Ratio.{Ratio}
use Rattle.record_text.specs.JsonRows.{row_of}
use Rattle.record_text.specs.declared.atom.Atom.{Atom}
use Rattle.record_text.specs.declared.row_json.RowFault.{RowFault}
use Rattle.plan_model.specs.declared.step.Step.{Step}
use Rattle.plan_reader.specs.Plans.{plan_walk}
use Rattle.expr_text.specs.declared.fault.PlanText.{PlanText}
use Rattle.expr_text.specs.declared.fault.PlanText.TheVariants as walk
use Rattle.messages.specs.Words.{thing_word}
use Rattle.messages.specs.declared.thing.Thing.{Thing}
use Rattle.messages.specs.declared.thing.Thing.TheVariants as thing
use Rattle.messages.specs.declared.refusal.Refusal.{Refusal}
use Rattle.messages.specs.declared.refusal.Refusal.TheVariants as refusal
use Rattle.request_fields.specs.Fields.{bool_in, flag_in, kind_in, kinds_in, list_in, named, no_other, path_of, row_in, rows_in, shape, shape_fault, text_in, thing_in, weight_at, weight_in, weights_in, whole_in}
use Rattle.request_text.specs.Ops.{op_fields, op_of}
use Rattle.request_text.specs.Plans.{plan_fault, plan_field}
use Rattle.request_text.specs.Requests.{budget_in, drop_in, exact_in, load_in, measure_in, plan_in, request_in, request_in_json, request_of, request_on, source_in, sum_in, update_in, value_of}
use Rattle.request_text.specs.declared.op.Op.{Op}
use Rattle.request_text.specs.declared.op.Op.TheVariants as op

module _ (Cause : Type 0) where
  -- a refusal is not for noise, and for a file only where there is a cause
  abbrev pub IsQuiet : Refusal → Type 0
  IsQuiet refusal.Noise = ⊥
  IsQuiet refusal.File = Cause
  IsQuiet why = Unit {0}

  -- the same of what was read, where it is refused
  abbrev pub IsQuietResult : {X : Type 0} → Result X Refusal → Type 0
  IsQuietResult (Ok x) = Unit {0}
  IsQuietResult (Err why) = IsQuiet why

  -- ---- walks

  next : {X Y : Type 0} (r : Result X Refusal) (f : X → Result Y Refusal) → IsQuietResult r → ((x : X) → IsQuietResult (f x)) → IsQuietResult (r >>= f)
  next (Ok x) f q h = h x
  next (Err why) f q h = q

  quiet-needed : {X : Type 0} (why : Refusal) (o : Option X) → IsQuiet why → IsQuietResult (needed why o)
  quiet-needed why None q = q
  quiet-needed why (Some x) q = tt

  quiet-each : {D X : Type 0} (f : ℕ → D → Result X Refusal) → ((at : ℕ) (d : D) → IsQuietResult (f at d)) → (at : ℕ) (ds : List D) → IsQuietResult (each f at ds)
  quiet-each f h at [] = tt
  quiet-each f h at (d ∷ ds) = next (f at d) _ (h at d) (λ x. next (each f (at + 1) ds) _ (quiet-each f h (at + 1) ds) (λ xs. tt))

  quiet-if : {X : Type 0} (b : Bool) (r s : Result X Refusal) → IsQuietResult r → IsQuietResult s → IsQuietResult (cond b r s)
  quiet-if true r s q h = q
  quiet-if false r s q h = h

  -- ---- fields

  quiet-other_of : (t : ⊤) (o : Option (List ℕ)) → IsQuietResult (option_map_or shape o (Ok t))
  quiet-other_of t None = tt
  quiet-other_of t (Some field) = tt

  quiet-other : (fields : List (List ℕ)) (ms : Members) → IsQuietResult (no_other fields ms)
  unfolding no_other
  quiet-other fields ms = quiet-other_of tt (first_unknown fields ms)

  quiet-text : (field : List ℕ) (d : Data) → IsQuietResult (text_in field d)
  unfolding text_in
  quiet-text field d = quiet-needed (shape_fault field) (option_and_then as_str (get field d)) tt

  quiet-bool : (field : List ℕ) (d : Data) → IsQuietResult (bool_in field d)
  unfolding bool_in
  quiet-bool field d = quiet-needed (shape_fault field) (option_and_then as_bool (get field d)) tt

  -- the cases of these fields, as they are read
  abbrev flag_of : List ℕ → Option Data → Result Bool Refusal
  flag_of field None = Ok false
  flag_of field (Some d) = needed (shape_fault field) (as_bool d)

  abbrev one_of : Option Data → Option Data → Result Thing Refusal
  one_of None None = shape (codes "plan")
  one_of (Some plan) None = Ok thing.Plan
  one_of None (Some source) = Ok thing.Source
  one_of (Some plan) (Some source) = shape (codes "source")

  abbrev weights_of : Option (List Data) → Result (List Ratio) Refusal
  weights_of None = shape (codes "weights")
  weights_of (Some ds) = if list_all is_text ds then each weight_in 0 ds else shape (codes "weights")

  abbrev row_or_shape : Result (List Atom) RowFault → Result (List Atom) Refusal
  row_or_shape (Ok row) = Ok row
  row_or_shape (Err fault) = shape (codes "rows")

  abbrev plan_or_fault : Result (List Step) PlanText → Result (List Step) Refusal
  plan_or_fault (Ok steps) = Ok steps
  plan_or_fault (Err f) = Err (plan_fault f)

  abbrev plan_of : Option Data → Result (List Step) Refusal
  plan_of None = shape (codes "plan")
  plan_of (Some d) = plan_or_fault (plan_walk d)

  quiet-flag_of : (field : List ℕ) (o : Option Data) → IsQuietResult (flag_of field o)
  quiet-flag_of field None = tt
  quiet-flag_of field (Some d) = quiet-needed (shape_fault field) (as_bool d) tt

  quiet-flag : (field : List ℕ) (d : Data) → IsQuietResult (flag_in field d)
  unfolding flag_in
  quiet-flag field d = quiet-flag_of field (get field d)

  quiet-whole : (field : List ℕ) (low high : ℕ) (d : Data) → IsQuietResult (whole_in field low high d)
  unfolding whole_in
  quiet-whole field low high d = quiet-needed (shape_fault field) _ tt

  quiet-named : (field text : List ℕ) → IsQuietResult (named field text)
  unfolding named
  quiet-named field text = quiet-needed (refusal.Name field) _ tt

  quiet-path : (text : List ℕ) → IsQuietResult (path_of text)
  unfolding path_of
  quiet-path text = quiet-if (is_path text) (Ok text) (Err (refusal.Name (codes "path"))) tt tt

  quiet-one_of : (plan source : Option Data) → IsQuietResult (one_of plan source)
  quiet-one_of None None = tt
  quiet-one_of (Some plan) None = tt
  quiet-one_of None (Some source) = tt
  quiet-one_of (Some plan) (Some source) = tt

  quiet-thing : (d : Data) → IsQuietResult (thing_in d)
  unfolding thing_in
  quiet-thing d = quiet-one_of (get (codes "plan") d) (get (codes "source") d)

  quiet-list : (field : List ℕ) (low high : ℕ) (d : Data) → IsQuietResult (list_in field low high d)
  unfolding list_in
  quiet-list field low high d =
      next (needed (shape_fault field) (option_and_then list_of (get field d))) _ (quiet-needed (shape_fault field) (option_and_then list_of (get field d)) tt)
      (λ ds. quiet-if (nat_le low (length ds) && nat_le (length ds) high) (Ok ds) (shape field) tt tt)

  quiet-weight_at : (at : ℕ) (r : Result Ratio FracFault) → IsQuietResult (weight_at at r)
  quiet-weight_at at (Ok weight) = tt
  quiet-weight_at at (Err fault) = tt

  quiet-weight : (at : ℕ) (d : Data) → IsQuietResult (weight_in at d)
  unfolding weight_in
  quiet-weight at d =
      next (needed (shape_fault (codes "weights")) (as_str d)) (λ text. weight_at at (weight_of text)) (quiet-needed (shape_fault (codes "weights")) (as_str d) tt)
      (λ text. quiet-weight_at at (weight_of text))

  quiet-weights_of : (o : Option (List Data)) → IsQuietResult (weights_of o)
  quiet-weights_of None = tt
  quiet-weights_of (Some ds) = quiet-if (list_all is_text ds) (each weight_in 0 ds) (shape (codes "weights")) (quiet-each weight_in quiet-weight 0 ds) tt

  quiet-weights : (d : Data) → IsQuietResult (weights_in d)
  unfolding weights_in
  quiet-weights d = quiet-weights_of (option_and_then list_of (get (codes "weights") d))

  quiet-kind : (d : Data) → IsQuietResult (kind_in d)
  unfolding kind_in
  quiet-kind d = quiet-needed (shape_fault (codes "kinds")) _ tt

  quiet-kinds : (d : Data) → IsQuietResult (kinds_in d)
  unfolding kinds_in
  quiet-kinds d = next (list_in (codes "kinds") 1 16 d) _ (quiet-list (codes "kinds") 1 16 d) (λ ds. quiet-each (λ at. kind_in) (λ at. quiet-kind) 0 ds)

  quiet-row_or_shape : (r : Result (List Atom) RowFault) → IsQuietResult (row_or_shape r)
  quiet-row_or_shape (Ok row) = tt
  quiet-row_or_shape (Err fault) = tt

  quiet-row : (d : Data) → IsQuietResult (row_in d)
  unfolding row_in
  quiet-row d = quiet-row_or_shape (row_of d)

  quiet-rows : (d : Data) → IsQuietResult (rows_in d)
  unfolding rows_in
  quiet-rows d = next (list_in (codes "rows") 1 1024 d) _ (quiet-list (codes "rows") 1 1024 d) (λ ds. quiet-each (λ at. row_in) (λ at. quiet-row) 0 ds)

  quiet-plan_or_fault : (r : Result (List Step) PlanText) → IsQuietResult (plan_or_fault r)
  quiet-plan_or_fault (Ok steps) = tt
  quiet-plan_or_fault (Err (walk.Shape step f)) = tt
  quiet-plan_or_fault (Err (walk.Over step limit)) = tt
  quiet-plan_or_fault (Err walk.Memory) = tt

  quiet-plan_of : (o : Option Data) → IsQuietResult (plan_of o)
  quiet-plan_of None = tt
  quiet-plan_of (Some d) = quiet-plan_or_fault (plan_walk d)

  quiet-plan : (d : Data) → IsQuietResult (plan_field d)
  unfolding plan_field
  quiet-plan d = quiet-plan_of (get (codes "plan") d)

  -- ---- operations

  known : (fields : List (List ℕ)) (ms : Members) {X : Type 0} (f : ⊤ → Result X Refusal) → ((t : ⊤) → IsQuietResult (f t)) → IsQuietResult (no_other fields ms >>= f)
  known fields ms f h = next (no_other fields ms) f (quiet-other fields ms) h

  quiet-request_in : (d : Data) (ms : Members) (o : Op) → IsQuietResult (request_in d ms o)
  unfolding sum_in source_in update_in load_in plan_in drop_in measure_in exact_in budget_in
  quiet-request_in d ms op.Sum = next (weights_in d) _ (quiet-weights d) (λ weights. known (op_fields op.Sum) ms _ (λ t. tt))
  quiet-request_in d ms op.Source =
      next (text_in (codes "name") d) _ (quiet-text (codes "name") d) (λ text.
      next (kinds_in d) _ (quiet-kinds d) (λ kinds.
      next (bool_in (codes "signed") d) _ (quiet-bool (codes "signed") d) (λ signed.
      next (whole_in (codes "budget") 0 1000000000000000 d) _ (quiet-whole (codes "budget") 0 1000000000000000 d) (λ budget.
      known (op_fields op.Source) ms _ (λ t. next (named (codes "name") text) _ (quiet-named (codes "name") text) (λ name. tt))))))
  quiet-request_in d ms op.Update =
      next (text_in (codes "source") d) _ (quiet-text (codes "source") d) (λ text.
      next (text_in (codes "csv") d) _ (quiet-text (codes "csv") d) (λ csv.
      next (flag_in (codes "header") d) _ (quiet-flag (codes "header") d) (λ header.
      known (op_fields op.Update) ms _ (λ t. next (named (codes "source") text) _ (quiet-named (codes "source") text) (λ name. tt)))))
  quiet-request_in d ms op.Load =
      next (text_in (codes "source") d) _ (quiet-text (codes "source") d) (λ text.
      next (text_in (codes "path") d) _ (quiet-text (codes "path") d) (λ path.
      next (flag_in (codes "header") d) _ (quiet-flag (codes "header") d) (λ header.
      known (op_fields op.Load) ms _ (λ t.
      next (named (codes "source") text) _ (quiet-named (codes "source") text) (λ name.
      next (path_of path) _ (quiet-path path) (λ path. tt))))))
  quiet-request_in d ms op.Plan =
      next (text_in (codes "name") d) _ (quiet-text (codes "name") d) (λ text.
      next (plan_field d) _ (quiet-plan d) (λ plan.
      known (op_fields op.Plan) ms _ (λ t. next (named (codes "name") text) _ (quiet-named (codes "name") text) (λ name. tt))))
  quiet-request_in d ms op.Drop =
      next (text_in (codes "plan") d) _ (quiet-text (codes "plan") d) (λ text.
      known (op_fields op.Drop) ms _ (λ t. next (named (codes "plan") text) _ (quiet-named (codes "plan") text) (λ name. tt)))
  quiet-request_in d ms op.Measure =
      next (text_in (codes "plan") d) _ (quiet-text (codes "plan") d) (λ text.
      next (rows_in d) _ (quiet-rows d) (λ rows.
      next (whole_in (codes "epsilon") 1 1000000000 d) _ (quiet-whole (codes "epsilon") 1 1000000000 d) (λ epsilon.
      known (op_fields op.Measure) ms _ (λ t. next (named (codes "plan") text) _ (quiet-named (codes "plan") text) (λ name. tt)))))
  quiet-request_in d ms op.Exact =
      next (thing_in d) _ (quiet-thing d) (λ thing.
      next (text_in (thing_word thing) d) _ (quiet-text (thing_word thing) d) (λ text.
      next (rows_in d) _ (quiet-rows d) (λ rows.
      known (op_fields op.Exact) ms _ (λ t. next (named (thing_word thing) text) _ (quiet-named (thing_word thing) text) (λ name. tt)))))
  quiet-request_in d ms op.Budget =
      next (text_in (codes "source") d) _ (quiet-text (codes "source") d) (λ text.
      known (op_fields op.Budget) ms _ (λ t. next (named (codes "source") text) _ (quiet-named (codes "source") text) (λ name. tt)))

  quiet-request_of : (d : Data) → IsQuietResult (request_of d)
  unfolding request_of
  quiet-request_of d =
      next (needed (shape_fault (codes "request")) (as_object d)) _ (quiet-needed (shape_fault (codes "request")) (as_object d) tt) (λ members.
      next (needed (shape_fault (codes "op")) (op_of d)) _ (quiet-needed (shape_fault (codes "op")) (op_of d) tt) (λ o. quiet-request_in d members o))

  quiet-json : (line : List ℕ) → IsQuietResult (request_in_json line)
  unfolding request_in_json
  quiet-json line = next (needed refusal.Json (value_of line)) request_of (quiet-needed refusal.Json (value_of line) tt) quiet-request_of

  pub quiet_request : (line : List ℕ) → IsQuietResult (request_on line)
  unfolding request_on
  quiet_request line = quiet-if (nat_lt 1048576 (length line)) (Err refusal.Line) (request_in_json line) tt (quiet-json line)
