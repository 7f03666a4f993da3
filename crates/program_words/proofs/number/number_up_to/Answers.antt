use Rattle.std.proofs.Common.{◌∙◌, sym}
use Rattle.program_words.proofs.Numbers.{number_up_to-read}
use Rattle.program_words.proofs.number.number_up_to.Goals as goal

pub returns-in_err-number : goal.returns-in_err-number
returns-in_err-number c =
    c.from_residual.ensures ∙ number_up_to-read c.args.most c.args.text.now c.parse.result _ (sym c.begins_from_one.ensures ∙ c.if-not-begins_from_one.false)
    c.ranges.most.fits c.parse.ensures.value.0 c.in_err-number.ensures.value

pub returns : goal.returns
returns c =
    c.then_some.ensures ∙ number_up_to-read c.args.most c.args.text.now c.parse.result _ (sym c.begins_from_one.ensures ∙ c.if-not-begins_from_one.false)
    c.ranges.most.fits c.parse.ensures.value.0 c.in_ok-number.ensures.value
