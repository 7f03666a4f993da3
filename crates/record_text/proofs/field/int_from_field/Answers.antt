use Rattle.std.proofs.Common.{◌≡◌, true, sym, ◌∙◌, ap, w64}
use Rattle.std.specs.Str.Parse.{ParsesSigned, without_leading_sign}
use Rattle.numerals.specs.Numerals.{is_short_numeral}
use Rattle.record_text.proofs.Numerals.{IsUtf8-numeral, parsed, short-length}
use Rattle.record_text.proofs.field.int_from_field.Goals as goal

pub unreachable-requires : goal.unreachable-requires
unreachable-requires c =
    let short : is_short_numeral (without_leading_sign c.args.field.now) ≡ true =
    ap is_short_numeral (sym c.without_sign.ensures) ∙ sym c.if-not-is_short_numeral.ensures in
    c.in-Err.ensures.cases.0 (IsUtf8-numeral c.args.field.now short)

pub returns : goal.returns
returns c =
    let short : is_short_numeral (without_leading_sign c.args.field.now) ≡ true =
    ap is_short_numeral (sym c.without_sign.ensures) ∙ sym c.if-not-is_short_numeral.ensures in
    let read : ParsesSigned w64 10 c.args.field.now c.parse.result = rw c.in-Ok.ensures.cases.0 at c.parse.ensures.value.0 in
    c.ok.ensures.value ∙ parsed c.args.field.now c.parse.result (short-length _ short) read
