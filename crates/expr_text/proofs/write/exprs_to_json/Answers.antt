use Rattle.std.proofs.Common.{◌≡◌, map, take, arith, rules}
use Rattle.std.proofs.lemmas.List.{take_all}
use Rattle.serde_json.specs.View.{view}
use Rattle.expr_text.specs.Exprs.{member_in}
use Rattle.expr_text.proofs.ReadsOn.{next_reads}
use Rattle.expr_text.proofs.ListsReadBack.{reads-list, is_expr-at, has_places-is_expr, reads-expr_in}
use Rattle.expr_text.proofs.write.exprs_to_json.Goals as goal

pub expr_to_json-requires : goal.expr_to_json-requires
expr_to_json-requires c = has_places-is_expr c.at.result.now (is_expr-at c.args.exprs.now c.loop-i.i c.at.result.now c.requires c.at.ensures)

pub loop-i-preserved : goal.loop-i-preserved
loop-i-preserved c = record {
  read = λ place. rw c.in_ok-push.ensures.items
      (next_reads (member_in place) c.loop-i.values.items c.args.exprs.now c.loop-i.i c.in_ok-expr_to_json.field-0 c.at.result.now
      c.at.ensures c.loop-i.invariant.len (c.loop-i.invariant.read place)
      (reads-expr_in place c.at.result.now (view c.in_ok-expr_to_json.field-0) (is_expr-at c.args.exprs.now c.loop-i.i c.at.result.now c.requires c.at.ensures) c.in_ok-expr_to_json.ensures));
  len = search rules;
}

pub returns : goal.returns
returns c =
    let all : take c.loop-i.i c.args.exprs.now ≡ c.args.exprs.now = take_all c.loop-i.i c.args.exprs.now (omega arith) in
    rw c.from.ensures (reads-list c.args.exprs.now (map view c.loop-i.values.items) (omega arith) (omega arith)
    (λ place. (rw all at (c.loop-i.invariant.read place))))
