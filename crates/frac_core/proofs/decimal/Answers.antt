use Rattle.std.proofs.Common.{arith, refl, sym, ◌∙◌}
use Rattle.std.specs.Str.Parse.{digits_value}
use Rattle.frac_core.proofs.Numerals.{decimal_numbers, IsDecimal}
use Rattle.frac_core.proofs.decimal.Goals as goal
use Rattle.frac_core.proofs.decimal.Goals.{After-numeral}

numbers : (c : After-numeral) → IsDecimal c.args.whole.now c.args.fraction.now c.numeral.result (digits_value 10 c.args.fraction.now) c.pow-scale.result
numbers c =
    decimal_numbers c.args.whole.now c.args.fraction.now c.numeral.result (digits_value 10 c.args.fraction.now) c.pow-scale.result
    (sym c.is_short_numeral.ensures ∙ c.if-not-is_short_numeral.false) (sym c.is_short_numeral-else-not-is_short_numeral.ensures ∙ c.if-not-is_short_numeral-2.false)
    c.if-whole-fraction-gt18.false c.numeral.ensures refl c.pow-scale.ensures

pub overflow_mul-result : goal.overflow_mul-result
overflow_mul-result c = let s = (numbers (goal.at.overflow_mul-result c).After-numeral).small in omega arith

pub overflow_add-result : goal.overflow_add-result
overflow_add-result c = let s = (numbers (goal.at.overflow_add-result c).After-numeral).small in omega arith

pub returns : goal.returns
returns c = rw c.numeral-2.ensures (numbers (goal.at.returns c).After-numeral).numbers
