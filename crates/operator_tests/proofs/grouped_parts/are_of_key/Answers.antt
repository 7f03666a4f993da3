-- Each row that is tested has two numbers and the key.
use Rattle.std.proofs.Common.{arith, sym, ◌∙◌}
use Rattle.std.proofs.lemmas.Bool.{not-false}
use Rattle.record_text.specs.Order.{row_eq}
use Rattle.record_text.proofs.Equality.{rows_decided}
use Rattle.weighted_set.specs.declared.weighted.Weighted.{Weighted}
use Rattle.operator_tests.specs.Keys.{IsOfKey}
use Rattle.operator_tests.proofs.GroupedParts.{all_more, all_there}
use Rattle.operator_tests.proofs.grouped_parts.are_of_key.Goals as goal

pub loop-entry-preserved : goal.loop-entry-preserved
loop-entry-preserved c =
    all_more (λ (e : Weighted). IsOfKey c.args.exprs.now c.args.key.now e.row) c.args.part.now c.loop-entry.entry-index c.entry-item.result (omega arith) c.entry-item.is c.loop-entry.invariant
    (record {
      columns = c.fits.ensures.0 c.if-not-fits.false ∙ c.two_ints.ensures;
      key = sym c.in_ok-made_row.ensures ∙ (rows_decided c.in_ok-made_row.field-0 c.args.key.now).0 (not-false (row_eq c.in_ok-made_row.field-0 c.args.key.now) (sym c.ne-in-loop-entry.ensures ∙ c.if-ne.false));
    })

pub returns : goal.returns
returns c _ = all_there (λ (e : Weighted). IsOfKey c.args.exprs.now c.args.key.now e.row) c.args.part.now c.loop-entry.entry-index (omega arith) c.loop-entry.invariant
