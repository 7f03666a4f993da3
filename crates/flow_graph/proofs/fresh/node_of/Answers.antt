-- Each node means what its step does.
use Rattle.std.proofs.Common.{◌≡◌, [], length, true, ap, ap₂, refl, subst, sym, ◌∙◌}
use Rattle.std.proofs.lemmas.Bool.{and_parts}
use Rattle.engines.specs.Engines.{meaning_of}
use Rattle.op_groupby.specs.Group.{GroupParts, reads_within}
use Rattle.op_groupby.specs.contracts.group.GroupOpPartOp.TheImpl as group_part_op
use Rattle.op_join.specs.Join.{JoinParts}
use Rattle.op_join.specs.contracts.join.JoinOpPartOp.TheImpl as join_part_op
use Rattle.op_linear.specs.Filter.{FilterParts}
use Rattle.op_linear.specs.Many.{ManyParts}
use Rattle.op_linear.specs.Select.{SelectParts}
use Rattle.op_linear.specs.contracts.filter.FilterOpPartOp.TheImpl as filter_part_op
use Rattle.op_linear.specs.contracts.many.ManyOpPartOp.TheImpl as many_part_op
use Rattle.op_linear.specs.contracts.select.SelectOpPartOp.TheImpl as select_part_op
use Rattle.plan_model.specs.Acceptance.{have_columns, reads_columns}
use Rattle.plan_model.specs.Types.{columns_at}
use Rattle.plan_model.specs.declared.step.Step.{Step}
use Rattle.flow_graph.proofs.NodesMade.{before_as, columns_here}
use Rattle.flow_graph.proofs.fresh.node_of.Goals as goal

pub returns-in_ok-test-in-Filter : goal.returns-in_ok-test-in-Filter
returns-in_ok-test-in-Filter c =
    let all = c.args.columns.now in
    let of = c.in-Filter.of in
    let before = before_as (length all) c.args.step.now _ c.in-Filter.is c.requires.step in
    let parts : FilterParts = record { test = c.in-Filter.test; cols = columns_at all of } in
    let columns : c.index-columns-of.result ≡ columns_at all of = columns_here all of c.index-columns-of.result c.index-columns-of.is before.0 in
    let made : c.new-filter.result ≡ parts = c.new-filter.ensures ∙ ap₂ (λ t cols. record { test = t; cols = cols }) c.in_ok-test-in-Filter.ensures columns in
    rw c.in-Filter.is (record { meaning = ap (meaning_of filter_part_op.ghosts) (c.new.ensures.op ∙ made); stands = c.new.ensures.stands; idle = c.new.ensures.idle })

pub returns-in_ok-row-in-Select : goal.returns-in_ok-row-in-Select
returns-in_ok-row-in-Select c =
    let all = c.args.columns.now in
    let of = c.in-Select.of in
    let before = before_as (length all) c.args.step.now _ c.in-Select.is c.requires.step in
    let parts : SelectParts = record { row = c.in-Select.row; cols = columns_at all of } in
    let columns : c.index-columns-of-in-Select.result ≡ columns_at all of = columns_here all of c.index-columns-of-in-Select.result c.index-columns-of-in-Select.is before.0 in
    let made : c.new-select.result ≡ parts = c.new-select.ensures ∙ ap₂ (λ r cols. record { row = r; cols = cols }) c.in_ok-row-in-Select.ensures columns in
    rw c.in-Select.is (record { meaning = ap (meaning_of select_part_op.ghosts) (c.new-in-Select.ensures.op ∙ made); stands = c.new-in-Select.ensures.stands; idle = c.new-in-Select.ensures.idle })

pub returns-in_ok-items-in-Many : goal.returns-in_ok-items-in-Many
returns-in_ok-items-in-Many c =
    let all = c.args.columns.now in
    let of = c.in-Many.of in
    let before = before_as (length all) c.args.step.now _ c.in-Many.is c.requires.step in
    let parts : ManyParts = record { over = c.in-Many.over; items = c.in-Many.items; cols = columns_at all of } in
    let columns : c.index-columns-of-in-Many.result ≡ columns_at all of = columns_here all of c.index-columns-of-in-Many.result c.index-columns-of-in-Many.is before.0 in
    let made : c.new-many.result ≡ parts = c.new-many.ensures ∙ ap₂ (λ is cols. record { over = c.in-Many.over; items = is; cols = cols }) c.in_ok-items-in-Many.ensures columns in
    rw c.in-Many.is (record { meaning = ap (meaning_of many_part_op.ghosts) (c.new-in-Many.ensures.op ∙ made); stands = c.new-in-Many.ensures.stands; idle = c.new-in-Many.ensures.idle })

pub returns-in_ok-right_key-in-Join : goal.returns-in_ok-right_key-in-Join
returns-in_ok-right_key-in-Join c =
    let all = c.args.columns.now in
    let before = before_as (length all) c.args.step.now _ c.in-Join.is c.requires.step in
    let left : c.index-columns-left-in-Join.result ≡ columns_at all c.in-Join.left = columns_here all c.in-Join.left c.index-columns-left-in-Join.result c.index-columns-left-in-Join.is before.0 in
    let right : c.index-columns-right.result ≡ columns_at all c.in-Join.right = columns_here all c.in-Join.right c.index-columns-right.result c.index-columns-right.is before.1.0 in
    let copied : JoinParts = record { left_key = c.in-Join.left_key; right_key = c.in-Join.right_key; left = c.index-columns-left-in-Join.result; right = c.index-columns-right.result } in
    let parts : JoinParts = record { left_key = c.in-Join.left_key; right_key = c.in-Join.right_key; left = columns_at all c.in-Join.left; right = columns_at all c.in-Join.right } in
    let copies : c.new-join.result ≡ copied =
    c.new-join.ensures ∙ ap₂ (λ f g. record { left_key = f; right_key = g; left = c.index-columns-left-in-Join.result; right = c.index-columns-right.result }) c.in_ok-left_key-in-Join.ensures c.in_ok-right_key-in-Join.ensures in
    let made : c.new-join.result ≡ parts = copies ∙ ap₂ (λ l r. record { left_key = c.in-Join.left_key; right_key = c.in-Join.right_key; left = l; right = r }) left right in
    rw c.in-Join.is (record { meaning = ap (meaning_of join_part_op.ghosts) (c.new-in-Join.ensures.op ∙ made); stands = c.new-in-Join.ensures.stands; idle = c.new-in-Join.ensures.idle })

pub new-group-requires-clause-reads : goal.new-group-requires-clause-reads
new-group-requires-clause-reads c =
    let all = c.args.columns.now in
    let of = c.in-Group.of in
    let before = before_as (length all) c.args.step.now _ c.in-Group.is c.requires.step in
    let columns : c.index-columns-of-in-Group.result ≡ columns_at all of = columns_here all of c.index-columns-of-in-Group.result c.index-columns-of-in-Group.is before.0 in
    let reads : reads_columns (Step.Group of c.in-Group.key c.in-Group.reduce) (columns_at all of) [] ≡ true = rw c.in-Group.is at c.requires.columns in
    subst (λ cols. reads_within cols c.in-Group.reduce ≡ true) (sym columns)
    (and_parts (have_columns (columns_at all of) c.in-Group.key) (reads_within (columns_at all of) c.in-Group.reduce) reads).1

pub returns-in_ok-key-in-Group : goal.returns-in_ok-key-in-Group
returns-in_ok-key-in-Group c =
    let all = c.args.columns.now in
    let of = c.in-Group.of in
    let before = before_as (length all) c.args.step.now _ c.in-Group.is c.requires.step in
    let parts : GroupParts = record { key = c.in-Group.key; reduce = c.in-Group.reduce; cols = columns_at all of } in
    let columns : c.index-columns-of-in-Group.result ≡ columns_at all of = columns_here all of c.index-columns-of-in-Group.result c.index-columns-of-in-Group.is before.0 in
    let made : c.new-group.result ≡ parts = c.new-group.ensures ∙ ap₂ (λ k cols. record { key = k; reduce = c.in-Group.reduce; cols = cols }) c.in_ok-key-in-Group.ensures columns in
    rw c.in-Group.is (record { meaning = ap (meaning_of group_part_op.ghosts) (c.new-in-Group.ensures.op ∙ made); stands = c.new-in-Group.ensures.stands; idle = c.new-in-Group.ensures.idle })

pub returns-in-Source : goal.returns-in-Source
returns-in-Source c = rw c.in-Source.is (record { meaning = refl; stands = tt; idle = refl })
