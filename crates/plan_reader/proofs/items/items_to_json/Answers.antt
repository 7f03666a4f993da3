use Rattle.std.proofs.Common.{◌≡◌, map, take, arith, rules}
use Rattle.std.proofs.lemmas.List.{take_all}
use Rattle.serde_json.specs.View.{view}
use Rattle.expr_text.proofs.ReadsOn.{next_reads}
use Rattle.plan_reader.specs.Items.{item_at}
use Rattle.plan_reader.proofs.ItemsReadBack.{reads-items, is_item-at}
use Rattle.plan_reader.proofs.items.items_to_json.Goals as goal

pub item_to_json-requires : goal.item_to_json-requires
item_to_json-requires c = is_item-at c.args.items.now c.loop-i.i c.at.result.now c.requires c.at.ensures

pub loop-i-preserved : goal.loop-i-preserved
loop-i-preserved c = record {
  read = λ place. rw c.in_ok-push.ensures.items
      (next_reads (item_at place) c.loop-i.values.items c.args.items.now c.loop-i.i c.in_ok-item_to_json.field-0 c.at.result.now
      c.at.ensures c.loop-i.invariant.len (c.loop-i.invariant.read place) (c.in_ok-item_to_json.ensures place));
  len = search rules;
}

pub returns : goal.returns
returns c =
    let all : take c.loop-i.i c.args.items.now ≡ c.args.items.now = take_all c.loop-i.i c.args.items.now (omega arith) in
    rw c.from.ensures (reads-items c.args.items.now (map view c.loop-i.values.items) (omega arith) (omega arith)
    (λ place. (rw all at (c.loop-i.invariant.read place))))
