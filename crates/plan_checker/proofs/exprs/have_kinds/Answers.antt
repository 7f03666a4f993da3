use Rattle.std.proofs.Common.{ap, length, sym, ◌∙◌}
use Rattle.std.specs.Prelude.{is_some}
use Rattle.plan_model.specs.Limits.{is_expr}
use Rattle.plan_model.specs.Values.{has_columns, is_typed, term_of}
use Rattle.record_text.proofs.Lists.{passes_at}
use Rattle.plan_checker.proofs.Members.{fails_at, passes_more}
use Rattle.plan_checker.proofs.exprs.have_kinds.Goals as goal

pub kind_of_expr-requires : goal.kind_of_expr-requires
kind_of_expr-requires c = record {
  expr = passes_at is_expr c.args.es.now c.loop-i.i _ c.at.ensures c.requires.exprs;
  columns = passes_at (λ e. has_columns (length c.args.cols) (term_of e)) c.args.es.now c.loop-i.i _ c.at.ensures c.requires.columns;
}

pub returns-then-is_none : goal.returns-then-is_none
returns-then-is_none c = sym (fails_at (λ e. is_typed c.args.cols (term_of e)) c.args.es.now c.loop-i.i _ c.at.ensures (sym (ap is_some c.kind_of_expr.ensures) ∙ c.if-is_none.ensures))

pub loop-i-preserved : goal.loop-i-preserved
loop-i-preserved c = passes_more (λ e. is_typed c.args.cols (term_of e)) c.args.es.now c.loop-i.i _ c.at.ensures (sym (ap is_some c.kind_of_expr.ensures) ∙ c.if-is_none.ensures) c.loop-i.invariant
