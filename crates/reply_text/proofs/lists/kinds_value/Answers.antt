use Rattle.std.proofs.Common.{◌≡◌, map, refl, arith}
use Rattle.std.proofs.lemmas.Grind.{common_steps}
use Rattle.serde_json.proofs.Views.{view-Array}
use Rattle.serde_json.specs.View.{view}
use Rattle.reply_text.specs.Replies.{kind_data}
use Rattle.reply_text.proofs.ListData.{written-next}
use Rattle.reply_text.proofs.lists.kinds_value.Goals as goal

pub loop-column-preserved : goal.loop-column-preserved
loop-column-preserved c =
    rw (c.in_ok-push.ensures.items)
    (written-next kind_data c.loop-column.list.items c.args.kinds c.loop-column.column c.in_ok-value.value c.at.result c.at.ensures c.in_ok-value.ensures c.loop-column.invariant)

pub returns : goal.returns
returns c =
    let all : map view c.loop-column.list.items ≡ map kind_data c.args.kinds = grind (arith, common_steps) in
    rw (view-Array, all) refl
