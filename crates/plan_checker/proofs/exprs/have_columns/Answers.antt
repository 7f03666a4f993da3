use Rattle.std.proofs.Common.{length, sym, ◌∙◌}
use Rattle.plan_model.specs.Limits.{is_expr}
use Rattle.plan_model.specs.Values.{has_columns, term_of}
use Rattle.record_text.proofs.Lists.{passes_at}
use Rattle.plan_checker.proofs.Members.{fails_at, passes_more}
use Rattle.plan_checker.proofs.exprs.have_columns.Goals as goal

pub expr_has_columns-requires : goal.expr_has_columns-requires
expr_has_columns-requires c = passes_at is_expr c.args.es.now c.loop-i.i _ c.at.ensures c.requires

pub returns-then-not-expr_has_columns : goal.returns-then-not-expr_has_columns
returns-then-not-expr_has_columns c =
    sym (fails_at (λ e. has_columns (length c.args.cols) (term_of e)) c.args.es.now c.loop-i.i _ c.at.ensures (sym c.expr_has_columns.ensures ∙ c.if-not-expr_has_columns.true))

pub loop-i-preserved : goal.loop-i-preserved
loop-i-preserved c =
    passes_more (λ e. has_columns (length c.args.cols) (term_of e)) c.args.es.now c.loop-i.i _ c.at.ensures (sym c.expr_has_columns.ensures ∙ c.if-not-expr_has_columns.false) c.loop-i.invariant
