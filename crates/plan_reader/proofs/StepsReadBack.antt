-- Steps and plans that are written read back.
use Rattle.std.proofs.Common.{◌≡◌, ℕ, ◌&&◌, nat_lt, nat_le, true, List, length, Some, Ok, refl, arith, lt-ltb, le-leb}
use Rattle.std.specs.List.{list_all}
use Rattle.std.proofs.lemmas.Bool.{and_parts}
use Rattle.serde_json.specs.Data.{Data}
use Rattle.json_fields.proofs.Members.{data_list-items_of}
use Rattle.json_fields.specs.Walk.{each}
use Rattle.record_text.specs.Names.{is_name}
use Rattle.plan_model.specs.declared.expr.Expr.{Expr}
use Rattle.plan_model.specs.declared.step.Item.{Item}
use Rattle.plan_model.specs.declared.step.Reducer.{Reducer}
use Rattle.plan_model.specs.declared.step.Run.{Run}
use Rattle.plan_model.specs.declared.step.SetKind.{SetKind}
use Rattle.plan_model.specs.declared.step.SetKind.TheVariants as set
use Rattle.plan_model.specs.declared.step.Step.{Step}
use Rattle.plan_model.specs.declared.step.Step.TheVariants as step
use Rattle.plan_model.specs.Limits.{is_expr, are_exprs, is_item, is_run, is_plan, max_item_weight}
use Rattle.plan_model.specs.Sizes.{max_steps}
use Rattle.plan_model.proofs.Plans.{count_of_plan}
use Rattle.expr_text.specs.declared.fault.Field.TheVariants as field
use Rattle.expr_text.specs.Fields.{place}
use Rattle.expr_text.specs.Written.{ReadsAs, ListReadsAs}
use Rattle.expr_text.proofs.ListsReadBack.{reads-expr_in}
use Rattle.expr_text.proofs.Walks.{length-each}
use Rattle.plan_reader.proofs.StepsAfter.{steps_after-none}
use Rattle.plan_reader.specs.declared.step.StepKind.TheVariants as kind
use Rattle.plan_reader.specs.Plans.{plan_walk}
use Rattle.plan_reader.specs.Steps.{kind_named, set_named, of_in, left_in, right_in, over_in, source_in, where_in, select_in, many_in, shave_in, set_in, join_in, group_in, left_key_in, right_key_in, key_in, step_at}
use Rattle.plan_reader.specs.Written.{ItemsReadAs, ReducerReadsAs, RunsReadAs, StepReadsAs, source_data, where_data, select_data, many_data, shave_data, set_name, set_data, join_data, group_data, plan_data}

-- ---- steps

pub reads-source : (name : List ℕ) → is_name name ≡ true → StepReadsAs (step.Source name) (source_data name)
unfolding step_at source_in kind_named
reads-source name h at placed = rw h refl

pub reads-where : (from : ℕ) (test : Expr) (d : Data) → ReadsAs test d → StepReadsAs (step.Filter from test) (where_data from d)
unfolding step_at where_in kind_named of_in
reads-where from test d reads at placed =
    let parts = and_parts (nat_lt from at) (is_expr test) placed in
    rw (parts.0, reads-expr_in (place at field.If) test d parts.1 reads) refl

pub reads-select : (from : ℕ) (row : List Expr) (d : Data) → ListReadsAs row d → StepReadsAs (step.Select from row) (select_data from d)
unfolding step_at select_in kind_named of_in
reads-select from row d reads at placed =
    let parts = and_parts (nat_lt from at) (are_exprs row) placed in
    rw (parts.0, reads (place at field.Row)) refl

pub reads-many : (from spread : ℕ) (items : List Item) (d : Data) → ItemsReadAs items d → StepReadsAs (step.Many from spread items) (many_data from spread d)
unfolding step_at many_in kind_named of_in over_in
reads-many from spread items d reads at placed =
    let all = and_parts (nat_lt from at && nat_le 1 spread && nat_le spread max_item_weight) (list_all is_item items) placed in
    let first = and_parts (nat_lt from at && nat_le 1 spread) (nat_le spread max_item_weight) all.0 in
    let parts = and_parts (nat_lt from at) (nat_le 1 spread) first.0 in
    rw (parts.0, parts.1, first.1, reads (place at field.Items)) refl

pub reads-shave : (from : ℕ) (runs : List Run) (d : Data) → RunsReadAs runs d → StepReadsAs (step.Shave from runs) (shave_data from d)
unfolding step_at shave_in kind_named of_in
reads-shave from runs d reads at placed =
    let parts = and_parts (nat_lt from at) (list_all is_run runs) placed in
    rw (parts.0, reads (place at field.Runs)) refl

kind_named-set_name : (which : SetKind) → kind_named (set_name which) ≡ Some (kind.Set which)
unfolding kind_named set_named
kind_named-set_name set.Union = refl
kind_named-set_name set.Intersect = refl
kind_named-set_name set.Concat = refl
kind_named-set_name set.Except = refl

pub reads-set : (which : SetKind) (left right : ℕ) → StepReadsAs (step.Set which left right) (set_data (set_name which) left right)
unfolding step_at set_in left_in right_in
reads-set which left right at placed =
    let parts = and_parts (nat_lt left at) (nat_lt right at) placed in
    rw (kind_named-set_name which, parts.0, parts.1) refl

pub reads-join : (left right : ℕ) (left_key right_key : List Expr) (d e : Data) → ListReadsAs left_key d → ListReadsAs right_key e →
    StepReadsAs (step.Join left right left_key right_key) (join_data left right d e)
unfolding step_at join_in kind_named left_in right_in left_key_in right_key_in
reads-join left right left_key right_key d e first second at placed =
    let all = and_parts (nat_lt left at && nat_lt right at && are_exprs left_key) (are_exprs right_key) placed in
    let more = and_parts (nat_lt left at && nat_lt right at) (are_exprs left_key) all.0 in
    let parts = and_parts (nat_lt left at) (nat_lt right at) more.0 in
    rw (parts.0, parts.1, first (place at field.LeftKey), second (place at field.RightKey)) refl

pub reads-group : (from : ℕ) (key : List Expr) (reduce : Reducer) (d e : Data) → ListReadsAs key d → ReducerReadsAs reduce e →
    StepReadsAs (step.Group from key reduce) (group_data from d e)
unfolding step_at group_in kind_named of_in key_in
reads-group from key reduce d e first second at placed =
    let parts = and_parts (nat_lt from at) (are_exprs key) placed in
    rw (parts.0, first (place at field.Key), second (place at field.Reduce)) refl

-- ---- plans

pub reads-plan : (ss : List Step) (ds : List Data) → is_plan ss ≡ true → each step_at 0 ds ≡ Ok ss → plan_walk (plan_data ds) ≡ Ok ss
unfolding plan_walk
reads-plan ss ds h read =
    let count = count_of_plan ss h in
    let len : length ss ≡ length ds = length-each step_at 0 ds ss read in
    rw (data_list-items_of ds, lt-ltb 0 (length ds) (omega (arith, count.0)), le-leb (length ds) max_steps (omega (arith, count.1)), steps_after-none ds, read) refl
