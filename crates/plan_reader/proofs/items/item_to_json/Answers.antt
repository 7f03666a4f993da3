use Rattle.std.proofs.Common.{◌≡◌}
use Rattle.std.proofs.lemmas.Result.{IfOk-weaker}
use Rattle.serde_json.specs.View.{view}
use Rattle.plan_reader.specs.Written.{ItemReadsAs, item_data, guarded_item_data}
use Rattle.plan_reader.proofs.ItemsReadBack.{item_parts, reads-item, reads-guarded_item}
use Rattle.plan_reader.proofs.items.item_to_json.Goals as goal

pub exprs_to_json-requires : goal.exprs_to_json-requires
exprs_to_json-requires c = (item_parts c.args.item.now c.requires).2

pub returns-in_ok-guard-in-Some : goal.returns-in_ok-guard-in-Some
returns-in_ok-guard-in-Some c =
    IfOk-weaker c.guarded_item_of.result
    (λ v. view v ≡ guarded_item_data c.args.item.now.weight (view c.in_ok-guard-in-Some.guard) (view c.in_ok-row.row))
    (λ v. ItemReadsAs c.args.item.now (view v))
    (λ v is. rw is (reads-guarded_item c.args.item.now c.in-Some.guard (view c.in_ok-guard-in-Some.guard) (view c.in_ok-row.row) c.requires c.in-Some.is
    c.in_ok-guard-in-Some.ensures c.in_ok-row.ensures)) c.guarded_item_of.ensures

pub returns-in-None : goal.returns-in-None
returns-in-None c =
    IfOk-weaker c.item_of.result (λ v. view v ≡ item_data c.args.item.now.weight (view c.in_ok-row.row)) (λ v. ItemReadsAs c.args.item.now (view v))
    (λ v is. rw is (reads-item c.args.item.now (view c.in_ok-row.row) c.requires c.in-None.is c.in_ok-row.ensures)) c.item_of.ensures
