use Rattle.std.proofs.Common.{arith, ◌≡◌, ◌*◌, ◌+◌, ◌-◌, get_or, ◌∙◌}
use Rattle.frac_core.proofs.Numerals.{digit_step}
use Rattle.frac_core.proofs.numeral.Goals as goal

pub overflow_mul-value : goal.overflow_mul-value
overflow_mul-value c =
    let s = digit_step c.args.digits.now c.loop-b.b-index c.loop-b.value c.requires (omega arith) c.loop-b.invariant in omega arith

pub overflow_sub-b : goal.overflow_sub-b
overflow_sub-b c =
    let s = digit_step c.args.digits.now c.loop-b.b-index c.loop-b.value c.requires (omega arith) c.loop-b.invariant in omega arith

pub overflow_add-value : goal.overflow_add-value
overflow_add-value c =
    let s = digit_step c.args.digits.now c.loop-b.b-index c.loop-b.value c.requires (omega arith) c.loop-b.invariant in omega arith

pub loop-b-preserved : goal.loop-b-preserved
loop-b-preserved c =
    let s = digit_step c.args.digits.now c.loop-b.b-index c.loop-b.value c.requires (omega arith) c.loop-b.invariant in
    let e : c.loop-b.value * 10 + c.from.result ≡ c.loop-b.value * 10 + (get_or c.args.digits.now c.loop-b.b-index 0 - 48) = omega arith in
    e ∙ s.next
