use Rattle.plan_checker.proofs.Parts.{exprs-item, row_within}
use Rattle.plan_checker.proofs.items.first_kinds.Goals as goal

pub kinds_over-requires : goal.kinds_over-requires
kinds_over-requires c = record {
  exprs = exprs-item c.args.items.now 0 _ c.first_item.ensures c.requires.items;
  columns = row_within c.args.cols c.args.items.now 0 _ c.first_item.ensures c.requires.columns;
}
