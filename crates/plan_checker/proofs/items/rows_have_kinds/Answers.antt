use Rattle.std.proofs.Common.{ap, sym, ◌∙◌}
use Rattle.std.specs.List.{list_all}
use Rattle.plan_model.specs.Limits.{is_item}
use Rattle.plan_checker.specs.Steps.{row_has_kinds}
use Rattle.record_text.proofs.Lists.{passes_at}
use Rattle.plan_checker.proofs.Members.{fails_at, passes_more}
use Rattle.plan_checker.proofs.Parts.{row_within}
use Rattle.plan_checker.proofs.items.rows_have_kinds.Goals as goal

pub row_has_kinds-requires : goal.row_has_kinds-requires
row_has_kinds-requires c = record {
  item = passes_at is_item c.args.items.now c.loop-i.i _ c.at.ensures c.requires.items;
  columns = row_within c.args.cols c.args.items.now c.loop-i.i _ c.at.ensures c.requires.columns;
}

pub returns-then-not-row_has_kinds : goal.returns-then-not-row_has_kinds
returns-then-not-row_has_kinds c =
    sym (sym (ap (λ first. list_all (row_has_kinds c.args.cols first) c.args.items.now) c.first_kinds-first.ensures)
    ∙ fails_at (row_has_kinds c.args.cols c.first_kinds-first.result) c.args.items.now c.loop-i.i _ c.at.ensures (sym c.row_has_kinds.ensures ∙ c.if-not-row_has_kinds.true))

pub loop-i-preserved : goal.loop-i-preserved
loop-i-preserved c =
    passes_more (row_has_kinds c.args.cols c.first_kinds-first.result) c.args.items.now c.loop-i.i _ c.at.ensures (sym c.row_has_kinds.ensures ∙ c.if-not-row_has_kinds.false) c.loop-i.invariant
