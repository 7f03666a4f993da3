use Rattle.std.specs.Prelude.{Some, option_map}
use Rattle.std.proofs.Common.{◌≡◌, ◌<◌, length, length-set, sym, ap, ◌∙◌, arith}
use Rattle.std.specs.Option.{unwrap_or}
use Rattle.std.proofs.lemmas.Option.{slice_get-map}
use Rattle.record_text.specs.declared.kinds.Kind.TheVariants.{Int}
use Rattle.plan_model.specs.Limits.{is_expr}
use Rattle.plan_model.specs.Types.{kind_over, kinds_over}
use Rattle.plan_model.specs.Values.{has_columns, term_of}
use Rattle.record_text.proofs.Lists.{passes_at}
use Rattle.plan_checker.proofs.Members.{written_next}
use Rattle.plan_checker.proofs.exprs.kinds_over.Goals as goal

pub kind_of_expr-requires : goal.kind_of_expr-requires
kind_of_expr-requires c = record {
  expr = passes_at is_expr c.args.es.now c.loop-i.i _ c.at.ensures c.requires.exprs;
  columns = passes_at (λ e. has_columns (length c.args.cols) (term_of e)) c.args.es.now c.loop-i.i _ c.at.ensures c.requires.columns;
}

pub loop-i-preserved : goal.loop-i-preserved
loop-i-preserved c =
    let kind = kind_over c.args.cols in
    let inside : c.loop-i.i < length c.loop-i.kinds = omega arith in
    let is : c.unwrap_or.result ≡ kind c.at.result.now = c.unwrap_or.ensures ∙ ap (λ k. unwrap_or k Int) c.kind_of_expr.ensures in
    let here = slice_get-map kind c.args.es.now c.loop-i.i ∙ ap (option_map kind) c.at.ensures ∙ ap Some (sym is) in (
      length-set c.loop-i.kinds c.loop-i.i c.unwrap_or.result ∙ c.loop-i.invariant.0,
      written_next (kinds_over c.args.cols c.args.es.now) c.loop-i.kinds c.loop-i.i c.unwrap_or.result here inside c.loop-i.invariant.1,
    )
