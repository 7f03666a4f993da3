use Rattle.std.proofs.Common.{◌++◌, arith, length, sym, ◌∙◌}
use Rattle.std.specs.Prelude.{option_to_list}
use Rattle.plan_model.specs.declared.step.Item.{Item}
use Rattle.plan_model.specs.Acceptance.{have_columns}
use Rattle.plan_model.specs.Limits.{is_item}
use Rattle.plan_model.specs.Values.{has_columns, term_of}
use Rattle.record_text.proofs.Lists.{passes_at}
use Rattle.plan_checker.proofs.Members.{fails_at, list_all-flat_map, passes_more, passes_whole}
use Rattle.plan_checker.proofs.items.items_have_columns.Goals as goal

pub item_has_columns-requires : goal.item_has_columns-requires
item_has_columns-requires c = passes_at is_item c.args.items.now c.loop-i.i _ c.at.ensures c.requires

pub returns-then-not-item_has_columns : goal.returns-then-not-item_has_columns
returns-then-not-item_has_columns c =
    let exprs = λ (i : Item). option_to_list i.guard ++ i.row in
    sym (list_all-flat_map (λ e. has_columns (length c.args.cols) (term_of e)) exprs c.args.items.now
    ∙ fails_at (λ i. have_columns c.args.cols (exprs i)) c.args.items.now c.loop-i.i _ c.at.ensures (sym c.item_has_columns.ensures ∙ c.if-not-item_has_columns.true))

pub loop-i-preserved : goal.loop-i-preserved
loop-i-preserved c =
    passes_more (λ i. have_columns c.args.cols (option_to_list i.guard ++ i.row)) c.args.items.now c.loop-i.i _ c.at.ensures (sym c.item_has_columns.ensures ∙ c.if-not-item_has_columns.false) c.loop-i.invariant

pub returns : goal.returns
returns c =
    let exprs = λ (i : Item). option_to_list i.guard ++ i.row in
    sym (list_all-flat_map (λ e. has_columns (length c.args.cols) (term_of e)) exprs c.args.items.now
    ∙ passes_whole (λ i. have_columns c.args.cols (exprs i)) c.args.items.now c.loop-i.i (omega arith) c.loop-i.invariant)
