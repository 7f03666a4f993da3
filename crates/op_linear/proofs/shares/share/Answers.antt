-- The quotient is in range.
use Rattle.std.proofs.Common.{◌≡◌, ap₂, ◌∙◌, arith, pos, to_z, of_z, w64}
use Rattle.std.proofs.lemmas.Int.{ints}
use Rattle.frac_core.specs.Quotient.{quotient_of}
use Rattle.op_linear.proofs.Quotients.{quotient-answered}
use Rattle.op_linear.proofs.shares.share.Goals as goal

pub unreachable-requires : goal.unreachable-requires
unreachable-requires c =
    let n : to_z w64 (of_z w64 c.from.result) ≡ pos c.args.weight = omega (arith, ints) in
    let d : to_z w64 (of_z w64 c.from-2.result) ≡ pos c.args.divisor = omega (arith, ints) in
    let answered = quotient-answered c.args.weight c.args.divisor c.requires (omega arith) (omega arith) in
    let result = c.new.ensures ∙ ap₂ quotient_of n d ∙ answered in
    cc
