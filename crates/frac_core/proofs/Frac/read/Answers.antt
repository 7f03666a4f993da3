use Rattle.std.proofs.Common.{ap, sym, ◌∙◌, true, false}
use Rattle.std.proofs.lemmas.Bool.{eqb-true}
use Rattle.frac_core.specs.Text.{signed_quotient, unsigned_of}
use Rattle.frac_core.proofs.Forms.{rest_is, weight_of-minus, weight_of-plus, weight_of-plain, weight_of-empty}
use Rattle.frac_core.proofs.Frac.read.Goals as goal

pub returns-then-is_empty : goal.returns-then-is_empty
returns-then-is_empty c = sym (weight_of-empty c.args.text.now (eqb-true _ 0 (sym c.is_empty.ensures ∙ c.if-is_empty.true)))

pub returns-then-text-eq45 : goal.returns-then-text-eq45
returns-then-text-eq45 c =
    c.signed.ensures ∙ ap (λ t. signed_quotient true (unsigned_of t)) (rest_is c.args.text.now 1)
    ∙ sym (weight_of-minus c.args.text.now c.if-text-eq45.true)

pub returns-then-text-eq43 : goal.returns-then-text-eq43
returns-then-text-eq43 c =
    c.signed-then-text-eq43.ensures ∙ ap (λ t. signed_quotient false (unsigned_of t)) (rest_is c.args.text.now 1)
    ∙ sym (weight_of-plus c.args.text.now c.if-text-eq43.true)

pub returns-else-text-eq43 : goal.returns-else-text-eq43
returns-else-text-eq43 c = c.signed-else-text-eq43.ensures ∙ sym (weight_of-plain c.args.text.now c.if-text-eq45.false c.if-text-eq43.false)
