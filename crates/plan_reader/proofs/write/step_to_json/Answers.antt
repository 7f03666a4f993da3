use Rattle.std.proofs.Common.{◌≡◌, ◌&&◌, nat_le, nat_lt}
use Rattle.std.specs.List.{list_all}
use Rattle.std.proofs.lemmas.Bool.{and_parts}
use Rattle.std.proofs.lemmas.Result.{IfOk-weaker}
use Rattle.serde_json.specs.View.{view}
use Rattle.plan_model.specs.declared.step.Step.TheVariants as step
use Rattle.plan_model.specs.Limits.{is_item, is_run, max_item_weight}
use Rattle.plan_reader.specs.Written.{StepReadsAs, source_data, where_data, select_data, many_data, shave_data, set_data, join_data, group_data}
use Rattle.plan_reader.proofs.StepsReadBack.{reads-source, reads-where, reads-select, reads-many, reads-shave, reads-set, reads-join, reads-group}
use Rattle.plan_reader.proofs.write.step_to_json.Goals as goal

pub returns-in-Source : goal.returns-in-Source
returns-in-Source c =
    rw c.in-Source.is (IfOk-weaker c.source_of.result (λ v. view v ≡ source_data c.as_str.result.now) (λ v. StepReadsAs (step.Source c.in-Source.name) (view v))
    (λ v is. rw (is, c.as_str.ensures.value) (reads-source c.in-Source.name c.as_str.ensures.name)) c.source_of.ensures)

pub returns-in_ok-test-in-Filter : goal.returns-in_ok-test-in-Filter
returns-in_ok-test-in-Filter c =
    rw c.in-Filter.is (IfOk-weaker c.where_of.result (λ v. view v ≡ where_data c.in-Filter.of (view c.in_ok-test-in-Filter.test))
    (λ v. StepReadsAs (step.Filter c.in-Filter.of c.in-Filter.test) (view v))
    (λ v is. rw is (reads-where c.in-Filter.of c.in-Filter.test (view c.in_ok-test-in-Filter.test) c.in_ok-test-in-Filter.ensures)) c.where_of.ensures)

pub returns-in_ok-row-in-Select : goal.returns-in_ok-row-in-Select
returns-in_ok-row-in-Select c =
    rw c.in-Select.is (IfOk-weaker c.select_of.result (λ v. view v ≡ select_data c.in-Select.of (view c.in_ok-row-in-Select.row))
    (λ v. StepReadsAs (step.Select c.in-Select.of c.in-Select.row) (view v))
    (λ v is. rw is (reads-select c.in-Select.of c.in-Select.row (view c.in_ok-row-in-Select.row) c.in_ok-row-in-Select.ensures)) c.select_of.ensures)

pub items_to_json-requires : goal.items_to_json-requires
items_to_json-requires c =
    let at = c.requires.0 in
    (and_parts (nat_lt c.in-Many.of at && nat_le 1 c.in-Many.over && nat_le c.in-Many.over max_item_weight) (list_all is_item c.in-Many.items)
    (rw c.in-Many.is at c.requires.1)).1

pub runs_to_json-requires : goal.runs_to_json-requires
runs_to_json-requires c =
    let at = c.requires.0 in
    (and_parts (nat_lt c.in-Shave.of at) (list_all is_run c.in-Shave.runs) (rw c.in-Shave.is at c.requires.1)).1

pub returns-in_ok-items-in-Many : goal.returns-in_ok-items-in-Many
returns-in_ok-items-in-Many c =
    rw c.in-Many.is (IfOk-weaker c.many_of.result (λ v. view v ≡ many_data c.in-Many.of c.in-Many.over (view c.in_ok-items-in-Many.items))
    (λ v. StepReadsAs (step.Many c.in-Many.of c.in-Many.over c.in-Many.items) (view v))
    (λ v is. rw is (reads-many c.in-Many.of c.in-Many.over c.in-Many.items (view c.in_ok-items-in-Many.items) c.in_ok-items-in-Many.ensures)) c.many_of.ensures)

pub returns-in_ok-runs-in-Shave : goal.returns-in_ok-runs-in-Shave
returns-in_ok-runs-in-Shave c =
    rw c.in-Shave.is (IfOk-weaker c.shave_of.result (λ v. view v ≡ shave_data c.in-Shave.of (view c.in_ok-runs-in-Shave.runs))
    (λ v. StepReadsAs (step.Shave c.in-Shave.of c.in-Shave.runs) (view v))
    (λ v is. rw is (reads-shave c.in-Shave.of c.in-Shave.runs (view c.in_ok-runs-in-Shave.runs) c.in_ok-runs-in-Shave.ensures)) c.shave_of.ensures)

pub returns-in-Set : goal.returns-in-Set
returns-in-Set c =
    rw c.in-Set.is (IfOk-weaker c.set_of.result (λ v. view v ≡ set_data c.set_name.result.now c.in-Set.left c.in-Set.right)
    (λ v. StepReadsAs (step.Set c.in-Set.kind c.in-Set.left c.in-Set.right) (view v))
    (λ v is. rw (is, c.set_name.ensures) (reads-set c.in-Set.kind c.in-Set.left c.in-Set.right)) c.set_of.ensures)

pub returns-in_ok-right_key-in-Join : goal.returns-in_ok-right_key-in-Join
returns-in_ok-right_key-in-Join c =
    rw c.in-Join.is (IfOk-weaker c.join_of.result
    (λ v. view v ≡ join_data c.in-Join.left c.in-Join.right (view c.in_ok-left_key-in-Join.left_key) (view c.in_ok-right_key-in-Join.right_key))
    (λ v. StepReadsAs (step.Join c.in-Join.left c.in-Join.right c.in-Join.left_key c.in-Join.right_key) (view v))
    (λ v is. rw is (reads-join c.in-Join.left c.in-Join.right c.in-Join.left_key c.in-Join.right_key (view c.in_ok-left_key-in-Join.left_key)
    (view c.in_ok-right_key-in-Join.right_key) c.in_ok-left_key-in-Join.ensures c.in_ok-right_key-in-Join.ensures)) c.join_of.ensures)

pub returns-in_ok-reduce-in-Group : goal.returns-in_ok-reduce-in-Group
returns-in_ok-reduce-in-Group c =
    rw c.in-Group.is (IfOk-weaker c.group_of.result
    (λ v. view v ≡ group_data c.in-Group.of (view c.in_ok-key-in-Group.key) (view c.in_ok-reduce-in-Group.reduce))
    (λ v. StepReadsAs (step.Group c.in-Group.of c.in-Group.key c.in-Group.reduce) (view v))
    (λ v is. rw is (reads-group c.in-Group.of c.in-Group.key c.in-Group.reduce (view c.in_ok-key-in-Group.key) (view c.in_ok-reduce-in-Group.reduce)
    c.in_ok-key-in-Group.ensures c.in_ok-reduce-in-Group.ensures)) c.group_of.ensures)
